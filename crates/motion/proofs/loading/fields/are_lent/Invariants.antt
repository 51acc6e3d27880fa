-- `motion::loading::fields::are_lent` meets its contract.
use Rattle.motion.specs.loading.Fields.{is_lent}
use mathlib.Core.Bool.{true}
use Rattle.ground.specs.Below.{all_below}
use mathlib.Core.Path.{◌≡◌}
use Rattle.motion.proofs.loading.fields.are_lent.Given as goal

abbrev pub invariant-loop-i : goal.invariant-loop-i
invariant-loop-i l = all_below l.i (is_lent l.fn.us (record { form = l.form })) ≡ true
