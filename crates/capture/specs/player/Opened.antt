-- What a capture file hands over, and the refusals before any job is looked at (document 01, "Capture file" and the order of refusals).
use Rattle.std.specs.Prelude.{ℕ, Bool, not, ◌||◌, List, [], ◌∷◌, ltb, length, Some, None, Ok, Err}
use Rattle.ground.specs.Pick.{pick}
use Rattle.frame.specs.declared.hints.description.Description.{Description}
use Rattle.frame.specs.declared.record.Frame.{Frame}
use Rattle.frame.specs.hints.Description.{setup_answer}
use Rattle.frame.specs.Record.{frame_of}
use Rattle.motion.specs.loading.Used.{uses_of}
use Rattle.motion.specs.loading.Fields.{lent, chosen}
use Rattle.jobs.specs.declared.job.record.Batch.{Batch}
use Rattle.jobs.specs.job.Bytes.{capture_job, batch_of}
use Rattle.jobs.specs.job.Job.{well_batch}
use Rattle.capture.specs.File.{Scan, well_file, scan_of, body_of}
use Rattle.layout.specs.DescriptionBytes.{description_at}
use Rattle.order.specs.Desk.{Given, given}

-- kind 1: the description
abbrev pub described_in : List ℕ → Description
described_in file = description_at (body_of file 1)

-- kind 2: the jobs
abbrev pub batch_in : List ℕ → Batch
batch_in file = batch_of capture_job (body_of file 2)

-- kinds 16..22: the seven fields; each is present where its kind is, with an empty body too
unfoldable pub flag_of : Scan → ℕ
flag_of (Err _) = 0
flag_of (Ok None) = 0
flag_of (Ok (Some _)) = 1

unfoldable pub present_in : List ℕ → List ℕ
present_in file =
    flag_of (scan_of file 16) ∷ flag_of (scan_of file 17) ∷ flag_of (scan_of file 18) ∷ flag_of (scan_of file 19)
    ∷ flag_of (scan_of file 20) ∷ flag_of (scan_of file 21) ∷ flag_of (scan_of file 22) ∷ []

abbrev pub fields_in : List ℕ → List (List ℕ)
fields_in file = lent (body_of file 16) (body_of file 17) (body_of file 18) (body_of file 19) (body_of file 20) (body_of file 21) (body_of file 22)

-- the frame that setup makes of it all, and what every step is handed, of the fields those that the frame's loads use; kind 4 has the records
abbrev pub frame_in : List ℕ → Frame
frame_in file = frame_of (described_in file) (present_in file)

abbrev pub given_in : List ℕ → Given
given_in file =
    given (frame_in file) (record { form = present_in file }) (chosen (uses_of (frame_in file)) (fields_in file)) (body_of file 4)

-- frames to 256 x 256, and at most 4 tile rows
unfoldable pub beyond : Description → Bool
beyond d = ltb 256 d.width || (ltb 256 d.height || ltb 4 d.tile_rows)

-- Of what a well-formed file of so many bytes hands over: 13 for more than 65,536; 12 over all jobs; 1 for what is beyond `replay`; frame setup's 1 and 2.
unfoldable pub judged : ℕ → Batch → Description → List ℕ → ℕ
judged bytes b d present =
    pick (ltb 65536 bytes) 13
    (pick (not (well_batch b)) 12 (pick (beyond d) 1 (setup_answer d present)))

-- 13 for a malformed file too
unfoldable pub open_answer : List ℕ → ℕ
open_answer file = pick (not (well_file file)) 13 (judged (length file) (batch_in file) (described_in file) (present_in file))
