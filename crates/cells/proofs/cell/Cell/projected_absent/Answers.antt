-- `cells::cell::Cell::projected_absent` meets its contract.
use Rattle.cells.specs.Cell.{projected_absent}
use Rattle.cells.proofs.cell.Cell.projected_absent.Goals as goal

pub returns : goal.returns
unfolding projected_absent
returns c = c.is_invalid.ensures
