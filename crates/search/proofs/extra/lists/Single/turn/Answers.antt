-- `search::extra::lists::Single::turn` meets its contract.
use borrow.Author.Tests.{eq-eqb, ne_eqb}
use Rattle.search.specs.extra.Lists.{turned}
use Rattle.search.proofs.extra.lists.Single.turn.Goals as goal

pub returns-then-bias_of : goal.returns-then-bias_of
unfolding turned
returns-then-bias_of c = rw (← c.bias_of.ensures, ← c.bias_of-2.ensures, eq-eqb _ _ c.if-bias_of.true)

pub returns-else-bias_of : goal.returns-else-bias_of
unfolding turned
returns-else-bias_of c = rw (← c.bias_of.ensures, ← c.bias_of-2.ensures, ne_eqb _ _ c.if-bias_of.false, c.negated.ensures)
