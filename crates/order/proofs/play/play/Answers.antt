-- `order::play::play` meets its contract.
use mathlib.Core.Path.{sym, ap, ◌∙◌}
use Prim.Native.Nat.{◌+◌}
use lib.ListN.{drop}
use Rattle.order.specs.Desk.{given_by, desk, plays}
use Rattle.order.proofs.Plays.{plays-on, plays-end, turned}
use Rattle.order.proofs.play.play.Goals as goal

pub loop-step-preserved : goal.loop-step-preserved
loop-step-preserved c =
    let s = c.args in
    let l = c.loop-step in
    let w = c.step_of.ensures in
    let g = given_by s.inputs.now in
    ap (plays g (drop (l.step-index + 1) s.steps.now)) (turned g (desk l.on l.proj l.saved) c.from.ensures w.value w.proj_after w.saved_after)
    ∙ sym (plays-on g s.steps.now (desk l.on l.proj l.saved) l.step-index c.loop-step-test.true) ∙ l.invariant

pub returns : goal.returns
returns c =
    let s = c.args in
    let l = c.loop-step in
    sym (plays-end (given_by s.inputs.now) s.steps.now (desk l.on l.proj l.saved) l.step-index c.loop-step-test.false) ∙ l.invariant
