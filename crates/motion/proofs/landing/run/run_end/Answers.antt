-- `motion::landing::run::run_end` meets its contract.
use Rattle.ground.proofs.Spans.{reach}
use Rattle.motion.specs.landing.Row.{source_at}
use mathlib.Core.Path.{sym, ◌∙◌}
use Rattle.motion.proofs.landing.run.run_end.Goals as goal

pub loop-e-preserved : goal.loop-e-preserved
unfolding source_at
loop-e-preserved c = reach _ _ _ c.loop-e.invariant (sym c.read.ensures ∙ c.is_alike.ensures c.if-not-is_alike.false)
