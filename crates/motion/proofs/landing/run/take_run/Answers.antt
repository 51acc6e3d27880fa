-- `motion::landing::run::take_run` meets its contract.
use Rattle.ground.specs.Script.{Patch}
use mathlib.Core.List.{List}
use Rattle.motion.proofs.landing.Placed.{near-in}
use Rattle.motion.proofs.landing.Landings.{gone, there, run-gone, run-there}
use Rattle.cells.specs.declared.cell.Cell.{Cell}
use Rattle.ground.proofs.Products.{row_fits}
use Rattle.motion.specs.Code.Places.{stamp}
use Prim.Native.Nat.{ℕ, ◌+◌, ◌-◌, ◌*◌, ◌%◌, ◌≤◌}
use native.Mathlib.Omega.{arith}
use mathlib.Core.Path.{sym, ap, ◌∙◌}
use Rattle.motion.proofs.landing.run.take_run.Goals as goal
use Rattle.motion.proofs.landing.run.take_run.Goals.{Else-not-is_near, Start}

pub returns-then-not-is_near-clause-proj_after : goal.returns-then-not-is_near-clause-proj_after
returns-then-not-is_near-clause-proj_after c =
    let r = sym c.is_near.ensures ∙ c.if-not-is_near.true in
    run-gone _ _ _ _ c.run_end-e.ensures _ (gone _ _ _ _ _ c.requires.taken _ c.shifts-s.ensures r)

-- the row is in reach, and its cells are in the buffer
reached : (c : Else-not-is_near) →
    let a = c.args in
    let p = a.y + c.shifts-s.result.y in
    (256 ≤ p) × ((p - 256) % 16 * a.w.stride.0 + a.w.stride.0 ≤ 16 * a.w.stride.0)
reached c =
    let a = c.args in
    let p = a.y + c.shifts-s.result.y in
    let i = near-in _ _ _ _ _ (sym c.is_near.ensures ∙ c.if-not-is_near.false) in
    (omega arith, row_fits ((p - 256) % 16) 16 a.w.stride.0 (omega arith))

pub overflow_sub-row : goal.overflow_sub-row
overflow_sub-row c = (reached c).0

pub returns-clause-proj_after : goal.returns-clause-proj_after
returns-clause-proj_after c =
    let a = c.args in
    let r = sym c.is_near.ensures ∙ c.if-not-is_near.false in
    let d = c.with_distance in
    let k = c.shifts-s in
    let h = there _ _ _ _ _ c.requires.taken _ k.ensures r in
    let f : Cell → ℕ → List Patch = λ z i. stamp a.w (a.w.part + (a.y + k.result.y - 256) % 16 * a.w.stride.0) k.result.x z i in
    run-there _ _ _ _ c.run_end-e.ensures _ (f d.result) (λ i. h i ∙ ap (λ (z : Cell). f z i) (sym d.ensures)) c.land_run.ensures
