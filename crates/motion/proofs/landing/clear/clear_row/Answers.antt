-- `motion::landing::clear::clear_row` meets its contract.
use Rattle.motion.proofs.landing.Landings.{wiped-one}
use Rattle.ground.proofs.Spans.{start, more, stop}
use Rattle.motion.specs.landing.Row.{clear_row}
use native.Mathlib.Omega.{arith}
use Rattle.motion.proofs.landing.clear.clear_row.Goals as goal

pub loop-q-init : goal.loop-q-init
loop-q-init c = start _ _ _

pub loop-q-preserved : goal.loop-q-preserved
loop-q-preserved c = let l = c.loop-q in more _ _ _ l.auto.q _ l.invariant (wiped-one _ _ _ _ c.clear_cell.ensures)

pub returns : goal.returns
unfolding clear_row
returns c = let l = c.loop-q in stop _ _ _ _ (omega arith) _ l.invariant
