-- `cells::cell::Cell::read` meets its contract.
use mir.Syntax.{w8}
use Rattle.ground.proofs.Bits.{kept}
use Rattle.cells.proofs.Cells.{cell}
use Rattle.cells.specs.Cell.{cell_at}
use Rattle.cells.proofs.cell.Cell.read.Goals as goal

pub returns : goal.returns
unfolding cell_at
returns c = cell c.read.ensures (kept w8 c.signed_byte.type_inv c.signed_byte.ensures)
