-- `motion::loading::load::load_steps` meets its contract.
use Rattle.ground.proofs.Spans.{start, more, all-accept}
use native.Mathlib.Omega.{arith}
use Rattle.motion.proofs.loading.load.load_steps.Goals as goal

pub loop-k-init : goal.loop-k-init
loop-k-init c = start _ _ _

pub load_step-requires-clause-k_value : goal.load_step-requires-clause-k_value
load_step-requires-clause-k_value c = all-accept _ _ _ _ c.requires.us_value (omega arith) (omega (arith, c.steps_of-k-end.ensures, c.loop-k-test.true))

pub loop-k-preserved : goal.loop-k-preserved
loop-k-preserved c = more _ _ _ (omega arith) _ c.loop-k.invariant c.load_step.ensures
