-- `spatial::neighbours::records::Records::neighbour_at` meets its contract.
use Rattle.spatial.specs.neighbours.Neighbour.{line_at}
use Rattle.spatial.proofs.neighbours.records.Records.neighbour_at.Goals as goal

pub returns : goal.returns
unfolding line_at
returns c = rw (← c.entry_at.ensures, ← c.col_at.ensures, ← c.read_at.ensures)
