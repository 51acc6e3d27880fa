-- `cells::block::Block::well_formed` meets its contract.
use borrow.Author.Tests.{le-leb, lt-leb}
use Rattle.cells.specs.Block.{well_block}
use Rattle.cells.proofs.block.Block.well_formed.Goals as goal
use Rattle.cells.proofs.block.Block.well_formed.Goals.{then-self-gt21-via-then-self-gt21, then-self-gt21-via-else-self-gt21+then-self-gt3, then-not-from_to-via-then-not-from_to, then-not-from_to-via-else-not-from_to+then-not-from_to-2}

pub returns-then-self-gt21 : goal.returns-then-self-gt21
unfolding well_block
returns-then-self-gt21 c = elim c.then-self-gt21.branch [
  | then-self-gt21-via-then-self-gt21 w ↦ rw (lt-leb _ _ w.if-self-gt21.true)
  | then-self-gt21-via-else-self-gt21+then-self-gt3 w ↦ rw (le-leb _ _ w.if-self-gt21.false, lt-leb _ _ w.if-self-gt3.true)
]

pub returns-then-not-from_to : goal.returns-then-not-from_to
unfolding well_block
returns-then-not-from_to c = elim c.then-not-from_to.branch [
  | then-not-from_to-via-then-not-from_to w ↦ rw (le-leb _ _ c.if-self-gt21.false, le-leb _ _ c.if-self-gt3.false, ← c.from_to.ensures, w.if-not-from_to.true)
  | then-not-from_to-via-else-not-from_to+then-not-from_to-2 w ↦ rw (le-leb _ _ c.if-self-gt21.false, le-leb _ _ c.if-self-gt3.false, ← c.from_to.ensures, w.if-not-from_to.false, ← w.from_to-else-not-from_to.ensures, w.if-not-from_to-2.true)
]

pub returns-then-bound_to : goal.returns-then-bound_to
unfolding well_block
returns-then-bound_to c = rw (le-leb _ _ c.if-self-gt21.false, le-leb _ _ c.if-self-gt3.false, ← c.from_to.ensures, c.if-not-from_to.false, ← c.from_to-else-not-from_to.ensures, c.if-not-from_to-2.false, ← c.bound_to.ensures, c.if-bound_to.true, ← c.bound_to-then-bound_to.ensures)

pub returns-else-bound_to : goal.returns-else-bound_to
unfolding well_block
returns-else-bound_to c = rw (le-leb _ _ c.if-self-gt21.false, le-leb _ _ c.if-self-gt3.false, ← c.from_to.ensures, c.if-not-from_to.false, ← c.from_to-else-not-from_to.ensures, c.if-not-from_to-2.false, ← c.bound_to.ensures, c.if-bound_to.false)
