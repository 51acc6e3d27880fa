-- `capture::player::play::play_all` meets its contract.
use mathlib.Core.Path.{◌≡◌}
use Rattle.order.specs.Desk.{given_by, desk, plays}
use Rattle.capture.specs.player.Played.{in_order}
use Rattle.capture.proofs.player.play.play_all.Given as goal

abbrev pub invariant-loop-k : goal.invariant-loop-k
invariant-loop-k l = desk l.on l.proj l.saved ≡ plays (given_by l.inputs) (in_order l.k) (desk l.fn.batch l.initial.proj l.initial.saved)
