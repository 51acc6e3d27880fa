-- A row of work, by its job's kind: what it reads, what it lays over the two buffers, and which row of the frame it is.
-- Assumes nothing.
use mathlib.Core.Path.{◌≡◌, refl, sym, ap, ◌∙◌}
use mathlib.Core.Bool.{true, false}
use mathlib.Core.List.{List}
use Prim.Native.Nat.{ℕ, ◌+◌, ◌*◌, ◌≤◌, ◌<◌}
use native.Mathlib.Omega.{arith}
use Rattle.ground.specs.Script.{Patch, run}
use Rattle.ground.proofs.Picks.{pick_true, pick-false}
use Rattle.frame.specs.declared.record.Frame.{Frame}
use Rattle.frame.specs.extent.Sizes.{records, saved_cells}
use Rattle.frame.proofs.Records.{frame-sizes}
use Rattle.motion.specs.declared.saving.area.Area.{Area}
use Rattle.motion.specs.saving.Area.{bottom_of, strip_of}
use Rattle.motion.specs.Code.Rooms.{RowRoom, Ready}
use Rattle.motion.specs.saving.Save.{row_read, row_patch, save_table}
use Rattle.motion.proofs.saving.Saves.{row_room, strip-room}
use Rattle.motion.specs.loading.Fields.{Sources}
use Rattle.motion.specs.loading.Load.{step_read, step_script}
use Rattle.motion.specs.loading.Used.{uses_of}
use Rattle.jobs.specs.declared.job.record.Job.{Job}
use Rattle.jobs.specs.job.Job.{is_load, window_in, strip_in, count_of}
use Rattle.jobs.proofs.job.Fronts.{bottom-low, count-save}
use Rattle.jobs.specs.work.Work.{work_read, work_script, on_proj, on_saved}

-- step k of a save is a row of the frame
pub save-under : (f : Frame) (j : Job) (k : ℕ) → is_load j ≡ false → k < count_of f j → j.area.top.0 + k < bottom_of f.sizes j.area
save-under f j k e h = omega (arith, count-save f j e)

pub save-low : (f : Frame) (j : Job) (k nrecs : ℕ) → is_load j ≡ false → Ready nrecs f j.area → k < count_of f j → j.area.top.0 + k < 65536
save-low f j k nrecs e r h = omega (arith, save-under f j k e h, bottom-low f j.area r.frame r.area)

-- and has room
pub save-room : (f : Frame) (a : Area) (nrecs nfield y : ℕ) → Ready nrecs f a → 5 * saved_cells f.sizes ≤ nfield → y < bottom_of f.sizes a
    → RowRoom nrecs (records f.sizes) nfield (strip_of f.sizes a) y
unfolding strip_of
save-room f a nrecs nfield y r l h =
    row_room nrecs (records f.sizes) nfield (strip_of f.sizes a) y
    (strip-room f.sizes a nrecs nfield (frame-sizes f r.frame) r.area l r.recs) refl h

-- a script by another name
laid : (l : List ℕ) {t : List ℕ} {p q : List Patch} → t ≡ run p l → p ≡ q → t ≡ run q l
laid l g e = g ∙ ap (λ (p : List Patch). run p l) e

-- ITS READS AND WRITES, by kind
module _ (f : Frame) (src : Sources) (recs : List ℕ) (j : Job) (k : ℕ) where
  pub load-reads : is_load j ≡ true → step_read src (window_in f j) k ≡ work_read f src recs j k
  unfolding work_read
  load-reads e = sym (pick_true _ e)

  pub save-reads : is_load j ≡ false
      → row_read recs (records f.sizes) (save_table f j.area j.sby j.pass) (strip_in f j) (j.area.top.0 + k) ≡ work_read f src recs j k
  unfolding work_read
  save-reads e = sym (pick-false _ e)

  -- one buffer gets the row of work, the other nothing
  pub load-lays : (proj saved : List ℕ) {t : List ℕ} → is_load j ≡ true → t ≡ run (step_script src (window_in f j) (uses_of f) k) proj
      → (t ≡ run (on_proj j (work_script f src recs j k)) proj) × (saved ≡ run (on_saved j (work_script f src recs j k)) saved)
  unfolding work_script run
  load-lays proj saved e g = (
    laid proj g (sym (pick_true _ e ∙ pick_true _ e)),
    ap (λ (p : List Patch). run p saved) (sym (pick_true (work_script f src recs j k) e)),
  )

  pub save-lays : (proj saved : List ℕ) {t : List ℕ} → is_load j ≡ false
      → t ≡ run (row_patch recs (save_table f j.area j.sby j.pass) f.refs (strip_in f j) (j.area.top.0 + k)) saved
      → (proj ≡ run (on_proj j (work_script f src recs j k)) proj) × (t ≡ run (on_saved j (work_script f src recs j k)) saved)
  unfolding work_script run
  save-lays proj saved e g = (
    ap (λ (p : List Patch). run p proj) (sym (pick-false (work_script f src recs j k) e)),
    laid saved g (sym (pick-false _ e ∙ pick-false _ e)),
  )
