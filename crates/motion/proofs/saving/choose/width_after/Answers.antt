-- `motion::saving::choose::width_after` meets its contract.
use mathlib.Core.Path.{◌≡◌, sym, ap, ◌∙◌}
use native.Mathlib.Omega.{arith}
use Rattle.motion.specs.saving.Save.{cells_wide}
use Rattle.motion.proofs.saving.Walks.{wide}
use Rattle.motion.proofs.saving.choose.width_after.Goals as goal

pub returns-then-code-last : goal.returns-then-code-last
returns-then-code-last c =
    let a = c.args in
    let e : a.last.cells ≡ cells_wide a.bs = c.requires ∙ ap cells_wide (sym c.if-code-last.true) in
    let w = wide a.bs in
    (sym c.if-code-last.true, e, omega (arith, w.some), omega (arith, w.few))
