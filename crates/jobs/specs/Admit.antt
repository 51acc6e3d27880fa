-- The admission of a batch (document 01, the order of refusals in a batch). It writes nothing.
use Rattle.std.specs.Prelude.{ℕ, Bool, not, List, length}
use Rattle.ground.specs.Answer.{or_else}
use Rattle.ground.specs.Below.{all_below}
use Rattle.ground.specs.Pick.{pick}
use Rattle.ground.specs.Span.{first_of}
use Rattle.frame.specs.declared.record.Frame.{Frame}
use Rattle.motion.specs.declared.loading.fields.Lent.{Lent}
use Rattle.motion.specs.loading.Fields.{Sources, cells_in, lengths_of}
use Rattle.jobs.specs.declared.job.record.Job.{Job}
use Rattle.jobs.specs.declared.job.record.Batch.{Batch}
use Rattle.jobs.specs.declared.job.record.Lengths.{Lengths}
use Rattle.jobs.specs.job.Job.{job_at, well_batch, count_of, job_front}
use Rattle.jobs.specs.job.Share.{meets}
use Rattle.jobs.specs.work.Work.{admit_read}

-- What a batch and each of its steps are handed beside the jobs: the frame's record, how the seven fields are lent, those of the
-- references that a load uses, the records, and two buffers to write, of which only the lengths matter.
pub record Handed : Type 0 where
  pub frame : Frame
  pub lent : Lent
  pub fields : List (List ℕ)
  pub recs : List ℕ
  pub nproj : ℕ
  pub nsaved : ℕ

abbrev pub handed : Frame → Lent → List (List ℕ) → List ℕ → (nproj nsaved : ℕ) → Handed
handed f l fields recs nproj nsaved = record { frame = f; lent = l; fields = fields; recs = recs; nproj = nproj; nsaved = nsaved }

abbrev pub lengths : List (List ℕ) → List ℕ → (nproj nsaved : ℕ) → Lengths
lengths fields recs nproj nsaved = record { fields = lengths_of fields; recs = length recs; proj = nproj; saved = nsaved }

abbrev pub lengths_in : Handed → Lengths
lengths_in h = lengths h.fields h.recs h.nproj h.nsaved

-- a load's sources
abbrev pub sources_in : Handed → Sources
sources_in h = cells_in h.fields h.frame

abbrev pub front_of : Handed → Job → ℕ
front_of h j = job_front h.frame h.lent (lengths_in h) j

-- all of a job's reads
unfoldable pub job_reads : Frame → Sources → List ℕ → Job → ℕ
job_reads f src recs j = first_of (admit_read f src recs j) 0 (count_of f j)

-- one job, whole
unfoldable pub job_answer : Handed → Job → ℕ
job_answer h j = or_else (front_of h j) (job_reads h.frame (sources_in h) h.recs j)

-- the first refused job of the list
abbrev pub jobs_answer : Handed → Batch → ℕ
jobs_answer h b = first_of (λ i. job_answer h (job_at b i)) 0 b.n

-- no job's window shares a cell with that of a job before it
unfoldable pub alone_at : Frame → Batch → ℕ → Bool
alone_at f b j = all_below j (λ i. not (meets f (job_at b i) (job_at b j)))

unfoldable pub apart : Frame → Batch → Bool
apart f b = all_below b.n (alone_at f b)

-- 12 over all jobs; then each job's own, of which 1 goes by the frame and the flags alone, so that the first job answers it for all; 11 last
unfoldable pub batch_answer : Handed → Batch → ℕ
batch_answer h b =
    pick (not (well_batch b)) 12 (or_else (jobs_answer h b) (pick (apart h.frame b) 0 11))
