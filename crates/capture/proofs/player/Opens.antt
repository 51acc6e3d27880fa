-- What an opened capture is known to have.
-- Assumes nothing.
use mathlib.Core.Path.{◌≡◌, refl, ap, ◌∙◌}
use mathlib.Core.Bool.{Bool, true, false, not, cond}
use mathlib.Core.List.{List, []}
use Prim.Native.Nat.{ℕ, zero, suc, ◌+◌, ◌≤◌, ◌<◌}
use native.Mathlib.Omega.{arith}
use lib.Dec.{ltb}
use lib.ListN.{length, get_or}
use Rattle.ground.proofs.Answers.{refused-not}
use Rattle.frame.specs.declared.hints.description.Description.{Description}
use Rattle.frame.specs.declared.record.Frame.{Frame}
use Rattle.frame.specs.Record.{frame_of}
use Rattle.layout.specs.FrameBytes.{frame_at, frame_bytes}
use Rattle.layout.proofs.KeptFrame.{frame_back, setup-holdable}
use Rattle.ground.specs.Put.{put}
use Rattle.frame.specs.hints.Description.{setup_answer}
use Rattle.jobs.specs.declared.job.record.Batch.{Batch}
use Rattle.jobs.specs.job.Bytes.{capture_job, batch_of}
use Rattle.jobs.specs.job.Job.{well_batch}
use Rattle.std.specs.Prelude.{Some, None, Ok, is_some}
use Rattle.ground.specs.Pick.{pick}
use Rattle.capture.specs.File.{entries, start_of, entry_of, found, well_file, scan_of, body_of}
use Rattle.capture.proofs.Files as files
use Rattle.capture.specs.player.Opened.{described_in, batch_in, flag_of, present_in, fields_in, beyond, judged, open_answer}

pub described-long : (file : List ℕ) → well_file file ≡ true → 67 ≤ length (body_of file 1)
described-long file e = omega (arith, files.described file e)

-- a field is flagged where its kind is found
pub flag_found : (file : List ℕ) (k : ℕ) → well_file file ≡ true → cond (is_some (found file k)) 1 0 ≡ flag_of (scan_of file k)
unfolding found flag_of scan_of
flag_found file k w = rw w (by (ltb (entry_of file k) (entries file)))
  where
    by : (b : Bool) → cond (is_some (pick b (Some (entry_of file k)) None)) 1 0
        ≡ flag_of (pick b (Ok (Some (record { start = start_of file (entry_of file k); end = start_of file (suc (entry_of file k)) }))) (Ok None))
    by true = refl
    by false = refl

-- what is judged well: setup takes it
pub judged-setup : (bytes : ℕ) (b : Batch) (d : Description) (p : List ℕ) → judged bytes b d p ≡ 0 → setup_answer d p ≡ 0
unfolding judged
judged-setup bytes b d p z =
    let long = refused-not (ltb 65536 bytes) 12 _ z in
    let kinds = refused-not (not (well_batch b)) 11 _ long.1 in
    (refused-not (beyond d) 0 _ kinds.1).1

-- its record in bytes, read again
pub made : (d : Description) (p l : List ℕ) → setup_answer d p ≡ 0 → 109 ≤ length l → {r : List ℕ} {f : Frame} → r ≡ put l 0 (frame_bytes (frame_of d p)) → f ≡ frame_at r
    → f ≡ frame_of d p
made d p l z n w q = q ∙ ap frame_at w ∙ frame_back (frame_of d p) (setup-holdable d p z) l n

-- A malformed file is refused, and has no jobs.
pub malformed : (file : List ℕ) → well_file file ≡ false → (13 ≡ open_answer file) × (batch_of capture_job [] ≡ batch_in file)
unfolding open_answer scan_of
malformed file e = (rw e, rw e)

-- The answer of a well-formed one is that of what it hands over.
pub well-answer : (file : List ℕ) → well_file file ≡ true → {b : Batch} {d : Description} {p : List ℕ} → b ≡ batch_in file → d ≡ described_in file → p ≡ present_in file
    → judged (length file) b d p ≡ open_answer file
unfolding open_answer
well-answer file w e f g = rw (e, f, g, w)

-- a field's kind is 16 and its number
pub field_at : (file : List ℕ) (k : ℕ) → k < 7 → body_of file (16 + k) ≡ get_or (fields_in file) k []
field_at file zero h = refl
field_at file (suc zero) h = refl
field_at file (suc (suc zero)) h = refl
field_at file (suc (suc (suc zero))) h = refl
field_at file (suc (suc (suc (suc zero)))) h = refl
field_at file (suc (suc (suc (suc (suc zero))))) h = refl
field_at file (suc (suc (suc (suc (suc (suc zero)))))) h = refl
field_at file (suc (suc (suc (suc (suc (suc (suc k))))))) h = absurd (omega arith)
