-- `motion::landing::run::load_row` meets its contract.
use lib.ListN.{length}
use Rattle.ground.specs.Span.{span}
use Rattle.ground.specs.Script.{run}
use Rattle.motion.specs.landing.Row.{first_source, lane, source_at}
use Prim.Native.Nat.{◌+◌, ◌-◌, ◌≤◌}
use mathlib.Core.Path.{◌≡◌}
use Rattle.motion.proofs.landing.run.load_row.Given as goal

abbrev pub invariant-loop-x : goal.invariant-loop-x
invariant-loop-x l = (first_source l.w ≤ l.x) × (l.x ≤ first_source l.w + (l.end - first_source l.w)) × (length l.proj ≡ length l.initial.proj) × (l.proj ≡ run (span (lane (source_at l.src l.first) l.w l.m l.y) (first_source l.w) l.x) l.initial.proj)

abbrev pub decreases-loop-x : goal.decreases-loop-x
decreases-loop-x l = l.end - l.x
