-- What a job's front shows, and its count of steps.
-- Assumes nothing.
use mathlib.Core.Path.{◌≡◌, refl, sym, ◌∙◌, subst⁻¹}
use mathlib.Core.Bool.{Bool, true, false, not, ◌&&◌}
use Prim.Native.Nat.{◌+◌, ◌-◌, ◌≤◌}
use native.Mathlib.Nat.{mul-le-mul}
use native.Mathlib.Omega.{arith}
use lib.Dec.{ltb}
use borrow.Author.Tests.{ltb-false, not-false}
use Rattle.ground.proofs.Answers.{refused-not}
use Rattle.ground.proofs.Picks.{both, pick_true, pick-false}
use Rattle.frame.specs.declared.record.Frame.{Frame}
use Rattle.frame.specs.Record.{well_frame}
use Rattle.frame.proofs.Records.{frame-sizes}
use Rattle.motion.specs.declared.loading.fields.Lent.{Lent}
use Rattle.motion.specs.declared.saving.area.Area.{Area}
use Rattle.motion.specs.declared.saving.area.Window.{Window}
use Rattle.motion.specs.saving.Area.{well_area, bottom_of, strip_of, window_of}
use Rattle.motion.proofs.saving.Areas.{small, cut}
use Rattle.motion.proofs.saving.Saves as saves
use Rattle.motion.specs.loading.Fields.{well_lent}
use Rattle.motion.specs.loading.Load.{rows_of, steps_of}
use Rattle.motion.specs.loading.Used.{uses_of}
use Rattle.motion.proofs.loading.Steps as loads
use Rattle.motion.proofs.loading.Usings.{few-uses}
use Rattle.jobs.specs.declared.job.record.Job.{Job}
use Rattle.jobs.specs.declared.job.record.Lengths.{Lengths}
use Rattle.jobs.specs.job.Job.{is_load, window_in, count_of, own_front, job_front}
use Rattle.jobs.specs.Code.Step.{Able, Room}

-- of a job that its front accepts
pub record Front (f : Frame) (n : Lengths) (j : Job) : Type 0 where
  pub frame : well_frame f ≡ true
  pub area : well_area f.sizes j.area ≡ true
  pub able : Able f j n.fields n.recs
  pub room : Room f j n.proj n.saved
  pub most : j.done ≤ count_of f j

pub front : (f : Frame) (l : Lent) (n : Lengths) (j : Job) → job_front f l n j ≡ 0 → Front f n j
unfolding job_front
front f l n j z =
    let p1 = refused-not (not (well_frame f && well_lent l)) 0 _ z in
    let p3 = refused-not (not (well_area f.sizes j.area)) 2 _ p1.1 in
    let p12 = refused-not (ltb (count_of f j) j.done) 11 _ p3.1 in
    record {
      frame = (both (well_frame f) (well_lent l) (not-false _ p1.0)).0;
      area = not-false _ p3.0;
      able = record {
        loads = λ e. let k = load e p12.1 in record { frame = k.frame; area = k.area; fields = k.fields };
        saves = λ e. let k = save e p12.1 in record { frame = k.frame; area = k.area; recs = k.recs };
      };
      room = record { proj = λ e. (load e p12.1).target; saved = λ e. (save e p12.1).cells };
      most = ltb-false (count_of f j) j.done p12.0;
    }
  where
    load : is_load j ≡ true → own_front f l n j ≡ 0 → loads.Front f j.area n.fields n.proj
    load e z = loads.front f j.area l n.fields n.proj (sym (pick_true _ e) ∙ z)

    save : is_load j ≡ false → own_front f l n j ≡ 0 → saves.Front f j.area n.recs n.saved
    save e z = saves.front f j.area j.pass n.recs n.saved refl (sym (pick-false _ e) ∙ z)

-- an area's rows end low, and so do those of the code's own window
pub bottom-low : (f : Frame) (a : Area) → well_frame f ≡ true → well_area f.sizes a ≡ true → bottom_of f.sizes a ≤ 65536
bottom-low f a e h = let s = frame-sizes f e in omega (arith, (cut f.sizes a s h).bottom, (small f.sizes s).rows)

pub window-low : (f : Frame) (a : Area) {w : Window} → w ≡ window_of f.sizes a → well_frame f ≡ true → well_area f.sizes a ≡ true → w.bottom.0 ≤ 65536
unfolding window_of
window-low f a q e h = subst⁻¹ (λ (w : Window). w.bottom.0 ≤ 65536) q (bottom-low f a e h)

-- THE COUNT, of each kind
module _ (f : Frame) (j : Job) where
  pub count-load : is_load j ≡ true → count_of f j ≡ steps_of (window_in f j) (uses_of f)
  unfolding count_of
  count-load e = pick_true _ e

  pub count-save : is_load j ≡ false → count_of f j ≡ bottom_of f.sizes j.area - j.area.top.0
  unfolding count_of strip_of
  count-save e = pick-false _ e

  -- at most sixteen rows, each at most four times
  pub count_most : well_frame f ≡ true → well_area f.sizes j.area ≡ true → count_of f j ≤ 64
  unfolding steps_of rows_of window_of
  count_most e h = by (is_load j) refl
    where
      few : bottom_of f.sizes j.area - j.area.top.0 ≤ 16
      few = (cut f.sizes j.area (frame-sizes f e) h).few

      passes : 1 + (uses_of f).n ≤ 4
      passes = omega (arith, few-uses f)

      by : (b : Bool) → is_load j ≡ b → count_of f j ≤ 64
      by true t = omega (arith, count-load t, mul-le-mul {n₂ = 4} {m₂ = 16} passes few)
      by false t = omega (arith, count-save t, few)
