-- `order::play::play` meets its contract.
use mathlib.Core.Path.{◌≡◌}
use lib.ListN.{drop}
use Rattle.order.specs.Desk.{given_by, desk, plays}
use Rattle.order.proofs.play.play.Given as goal

abbrev pub invariant-loop-step : goal.invariant-loop-step
invariant-loop-step l =
    plays (given_by l.inputs) (drop l.step-index l.steps) (desk l.on l.proj l.saved) ≡ plays (given_by l.inputs) l.steps (desk l.initial.on l.initial.proj l.initial.saved)
