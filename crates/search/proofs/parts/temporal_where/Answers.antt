-- `search::parts::temporal_where` meets its contract.
use Rattle.stack.specs.Code.Found.{outcome}
use Rattle.search.specs.Parts.{temporal_where}
use Rattle.search.proofs.parts.temporal_where.Goals as goal

pub returns-then-on-clause-s_after : goal.returns-then-on-clause-s_after
unfolding temporal_where
returns-then-on-clause-s_after c = let r = c.sweep_all.ensures in rw c.if-on.true r.s_after

pub returns-clause-s_after : goal.returns-clause-s_after
unfolding temporal_where outcome
returns-clause-s_after c = rw c.if-on.false
