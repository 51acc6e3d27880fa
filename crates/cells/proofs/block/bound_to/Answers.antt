-- `cells::block::bound_to` meets its contract.
use Rattle.cells.specs.Block.{bound_to}
use Rattle.cells.specs.Cell.{is_ref}
use Rattle.cells.proofs.block.bound_to.Goals as goal

pub returns-then-not-is_ref : goal.returns-then-not-is_ref
unfolding bound_to is_ref
returns-then-not-is_ref c = rw (← c.is_ref.ensures, c.if-not-is_ref.true)

pub returns-else-not-is_ref : goal.returns-else-not-is_ref
unfolding bound_to is_ref
returns-else-not-is_ref c = rw (← c.is_ref.ensures, c.if-not-is_ref.false, ← c.within.ensures)
