-- `spatial::around::far::has_left` meets its contract.
use borrow.Author.Tests.{eq-eqb, ne_eqb}
use Rattle.spatial.specs.around.Around.{has_left}
use Rattle.spatial.proofs.around.far.has_left.Goals as goal

pub returns-then-depth-ne0 : goal.returns-then-depth-ne0
unfolding has_left
returns-then-depth-ne0 c = rw (← c.depth.ensures, ne_eqb _ _ c.if-depth-ne0.true, ← c.depth-then-depth-ne0.ensures)

pub returns-else-depth-ne0 : goal.returns-else-depth-ne0
unfolding has_left
returns-else-depth-ne0 c = rw (← c.depth.ensures, eq-eqb _ _ c.if-depth-ne0.false)
