-- `cells::cell::Cell::well_projected` meets its contract.
use Rattle.cells.specs.Cell.{well_projected}
use Rattle.cells.proofs.cell.Cell.well_projected.Goals as goal

pub returns-then-projected_absent : goal.returns-then-projected_absent
unfolding well_projected
returns-then-projected_absent c = rw (← c.projected_absent.ensures, c.if-projected_absent.true)

pub returns-then-within : goal.returns-then-within
unfolding well_projected
returns-then-within c = rw (← c.projected_absent.ensures, c.if-projected_absent.false, ← c.within.ensures, c.if-within.true, ← c.from_to.ensures)

pub returns-else-within : goal.returns-else-within
unfolding well_projected
returns-else-within c = rw (← c.projected_absent.ensures, c.if-projected_absent.false, ← c.within.ensures, c.if-within.false)
