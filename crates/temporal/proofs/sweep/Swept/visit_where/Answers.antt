-- `temporal::sweep::Swept::visit_where` meets its contract.
use Rattle.temporal.proofs.Sweeps.{where-here, where-passed}
use Rattle.temporal.proofs.sweep.Swept.visit_where.Goals as goal

pub returns-then-here-clause-s_after : goal.returns-then-here-clause-s_after
returns-then-here-clause-s_after c = where-here _ _ _ _ _ c.if-r-eq0.true c.if-here.true c.visit.ensures.s_after

pub returns-else-r-eq0-clause-s_after : goal.returns-else-r-eq0-clause-s_after
returns-else-r-eq0-clause-s_after c = where-passed _ _ _ _ _ _ c.else-r-eq0.either
