-- `search::parts::zero_where` meets its contract.
use Rattle.search.specs.Parts.{zero_where}
use Rattle.search.proofs.Temporals.{zero-most}
use Rattle.search.proofs.parts.zero_where.Goals as goal

pub returns-then-on : goal.returns-then-on
unfolding zero_where
returns-then-on c = (rw c.if-on.true c.zero_context.ensures, rw c.zero_context.ensures (zero-most _ _ _ c.requires.1))

pub returns : goal.returns
unfolding zero_where
returns c = (rw c.if-on.false, c.requires.1)
