-- `motion::landing::land::land_run` meets its contract.
use Rattle.ground.proofs.Spans.{start, more}
use Rattle.motion.proofs.landing.land.land_run.Goals as goal

pub loop-x-init : goal.loop-x-init
loop-x-init c = start _ _ _

pub loop-x-preserved : goal.loop-x-preserved
loop-x-preserved c = let l = c.loop-x in more _ _ _ l.auto.x _ l.invariant c.land_one.ensures
