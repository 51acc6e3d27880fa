-- `spatial::site::block::most_lines` meets its contract.
use borrow.Author.Tests.{eq-eqb, ne_eqb}
use Rattle.spatial.specs.site.Site.{deepest}
use Rattle.spatial.proofs.site.block.most_lines.Goals as goal

pub returns-then-across-eq1 : goal.returns-then-across-eq1
unfolding deepest
returns-then-across-eq1 c = rw (eq-eqb _ _ c.if-across-eq1.true)

pub returns-else-across-eq1 : goal.returns-else-across-eq1
unfolding deepest
returns-else-across-eq1 c = rw (ne_eqb _ _ c.if-across-eq1.false)
