-- `motion::loading::used::uses_of` meets its contract.
use Rattle.motion.specs.loading.Used.{used_of, held_as}
use mathlib.Core.Path.{◌≡◌}
use Rattle.motion.proofs.loading.used.uses_of.Given as goal

abbrev pub invariant-loop-i : goal.invariant-loop-i
invariant-loop-i l = l.us ≡ held_as (used_of l.mfmvs l.i)
