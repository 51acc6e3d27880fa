-- `capture::player::blank::lay_everywhere` meets its contract.
use mathlib.Core.Path.{◌≡◌}
use Rattle.ground.specs.Script.{run}
use Rattle.ground.specs.Span.{span}
use Rattle.capture.specs.player.Played.{laid_at}
use Rattle.capture.proofs.player.blank.lay_everywhere.Given as goal

abbrev pub invariant-loop-i : goal.invariant-loop-i
invariant-loop-i l = l.s ≡ run (span (laid_at l.c) 0 l.i) l.initial.s
