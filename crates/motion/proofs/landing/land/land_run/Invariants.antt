-- `motion::landing::land::land_run` meets its contract.
use Rattle.ground.specs.Span.{span}
use Rattle.ground.specs.Script.{run}
use Rattle.motion.specs.Code.Places.{stamp}
use mathlib.Core.Path.{◌≡◌}
use Rattle.motion.proofs.landing.land.land_run.Given as goal

abbrev pub invariant-loop-x : goal.invariant-loop-x
invariant-loop-x l = l.proj ≡ run (span (stamp l.w l.row l.d l.c) l.a l.x) l.initial.proj
