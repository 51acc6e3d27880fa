-- `motion::saving::walk::fill_cells` meets its contract.
use mathlib.Core.Path.{◌≡◌, sym, ap, ◌∙◌}
use native.Mathlib.Omega.{arith}
use Prim.Native.Nat.{ℕ, ◌+◌, ◌-◌, ◌*◌}
use Rattle.ground.proofs.Puts.{copies-on, copies-done}
use Rattle.ground.specs.Put.{put, copies}
use Rattle.cells.specs.Cell.{cell_bytes}
use Rattle.motion.proofs.saving.walk.fill_cells.Goals as goal

pub loop-i-preserved : goal.loop-i-preserved
loop-i-preserved c =
    let a = c.args in
    let l = c.loop-i in
    let e : a.at + a.n - (l.i + 1) ≡ a.at + a.n - l.i - 1 = omega arith in
    ap (λ (k : ℕ). put c.write.new.s (5 * (l.i + 1)) (copies k (cell_bytes a.c))) e
    ∙ copies-on l.field (cell_bytes a.c) (5 * l.i) (5 * (l.i + 1)) (a.at + a.n - l.i) (omega arith) (omega arith) c.write.ensures
    ∙ l.invariant

pub returns : goal.returns
returns c =
    let a = c.args in
    sym (copies-done _ (cell_bytes a.c) _ (a.at + a.n - c.loop-i.i) (omega arith)) ∙ c.loop-i.invariant
