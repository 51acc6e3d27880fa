-- `motion::landing::clear::clear_row` meets its contract.
use Rattle.ground.specs.Span.{span}
use Rattle.ground.specs.Script.{run}
use Rattle.motion.specs.landing.Row.{wipe}
use mathlib.Core.Path.{◌≡◌}
use Rattle.motion.proofs.landing.clear.clear_row.Given as goal

abbrev pub invariant-loop-q : goal.invariant-loop-q
invariant-loop-q l = l.proj ≡ run (span (wipe l.fn.w l.y) l.fn.w.left.0 l.q) l.initial.proj
