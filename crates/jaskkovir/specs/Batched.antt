-- What admission and a step on lent bytes answer, and what a step writes. A frame, or present flags, that are too short are refused with 4, before
-- anything else.
use Rattle.std.specs.Prelude.{ℕ, ◌+◌, ◌*◌, List, [], ◌∷◌, length}
use Rattle.ground.specs.Answer.{accepted}
use Rattle.ground.specs.Little.{four_bytes}
use Rattle.ground.specs.Pick.{pick}
use Rattle.ground.specs.Script.{Patch}
use Rattle.jobs.specs.job.Bytes.{capture_job, job_bytes, job_in, batch_of}
use Rattle.jobs.specs.Admit.{Handed, handed, batch_answer}
use Rattle.order.specs.steps.Turn.{turn_number, turn_proj, turn_saved}
use Rattle.layout.specs.FrameBytes.{frame_at}
use Rattle.jaskkovir.specs.Moved.{load_lacks, lent_by, used_by}

-- what the bytes hand over beside the jobs: nproj and nsaved are the lengths of the parts lent for the projection and the saved field
abbrev pub handed_in : (frame present : List ℕ) → List (List ℕ) → List ℕ → (nproj nsaved : ℕ) → Handed
handed_in frame present fields records nproj nsaved = handed (frame_at frame) (lent_by present) (used_by frame fields) records nproj nsaved

unfoldable pub admitted_answer : (frame present jobs : List ℕ) → List (List ℕ) → List ℕ → (nproj nsaved : ℕ) → ℕ
admitted_answer frame present jobs fields records nproj nsaved =
    pick (load_lacks (length frame) (length present)) 4 (batch_answer (handed_in frame present fields records nproj nsaved) (batch_of job_bytes jobs))

-- A step naming job k: its number, 0 where it is counted and 15 where the job is done, and what it lays over the three parts that it may write.
unfoldable pub stepped_number : (frame present jobs : List ℕ) → ℕ → List (List ℕ) → List ℕ → (nproj nsaved : ℕ) → ℕ
stepped_number frame present jobs k fields records nproj nsaved =
    pick (load_lacks (length frame) (length present)) 4 (turn_number (handed_in frame present fields records nproj nsaved) (batch_of job_bytes jobs) k)

unfoldable pub stepped_proj : (frame present jobs : List ℕ) → ℕ → List (List ℕ) → List ℕ → (nproj nsaved : ℕ) → List Patch
stepped_proj frame present jobs k fields records nproj nsaved =
    pick (load_lacks (length frame) (length present)) [] (turn_proj (handed_in frame present fields records nproj nsaved) (batch_of job_bytes jobs) k)

unfoldable pub stepped_saved : (frame present jobs : List ℕ) → ℕ → List (List ℕ) → List ℕ → (nproj nsaved : ℕ) → List Patch
stepped_saved frame present jobs k fields records nproj nsaved =
    pick (load_lacks (length frame) (length present)) [] (turn_saved (handed_in frame present fields records nproj nsaved) (batch_of job_bytes jobs) k)

-- of the jobs, the four bytes of job k's steps done; read again they are the batch that the step leaves (proofs/KeptJobs: `step_kept`)
unfoldable pub done_patch : ℕ → ℕ → List Patch
done_patch k done = record { at = job_bytes * k + capture_job; bytes = four_bytes done } ∷ []

unfoldable pub stepped_jobs : (frame present jobs : List ℕ) → ℕ → List (List ℕ) → List ℕ → (nproj nsaved : ℕ) → List Patch
stepped_jobs frame present jobs k fields records nproj nsaved =
    accepted (stepped_number frame present jobs k fields records nproj nsaved) (done_patch k ((job_in job_bytes jobs k).done + 1))
