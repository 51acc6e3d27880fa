-- `motion::loading::fields::are_long` meets its contract.
use Rattle.motion.specs.loading.Fields.{long_enough}
use mathlib.Core.Bool.{true}
use Rattle.ground.specs.Below.{all_below}
use mathlib.Core.Path.{◌≡◌}
use Rattle.motion.proofs.loading.fields.are_long.Given as goal

abbrev pub invariant-loop-i : goal.invariant-loop-i
invariant-loop-i l = all_below l.i (long_enough l.need l.fn.us (record { form = l.form }) l.lengths) ≡ true
