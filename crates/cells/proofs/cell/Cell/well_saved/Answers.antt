-- `cells::cell::Cell::well_saved` meets its contract.
use Rattle.cells.specs.Cell.{well_saved}
use Rattle.cells.proofs.cell.Cell.well_saved.Goals as goal

pub returns-then-saved_absent : goal.returns-then-saved_absent
unfolding well_saved
returns-then-saved_absent c = rw (← c.saved_absent.ensures, c.if-saved_absent.true)

pub returns-then-from_to : goal.returns-then-from_to
unfolding well_saved
returns-then-from_to c = rw (← c.saved_absent.ensures, c.if-saved_absent.false, ← c.from_to.ensures, c.if-from_to.true, ← c.within.ensures)

pub returns-else-from_to : goal.returns-else-from_to
unfolding well_saved
returns-else-from_to c = rw (← c.saved_absent.ensures, c.if-saved_absent.false, ← c.from_to.ensures, c.if-from_to.false)
