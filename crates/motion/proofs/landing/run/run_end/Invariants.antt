-- `motion::landing::run::run_end` meets its contract.
use Rattle.motion.specs.landing.Row.{source_at}
use Prim.Native.Nat.{ℕ, ◌≤◌, ◌<◌}
use mathlib.Core.Path.{◌≡◌}
use Rattle.motion.proofs.landing.run.run_end.Given as goal

abbrev pub invariant-loop-e : goal.invariant-loop-e
invariant-loop-e l = (i : ℕ) → l.x ≤ i → i < l.e → source_at l.src l.first i ≡ l.c
