-- `spatial::neighbours::records::Records::read_at` meets its contract.
use Rattle.spatial.specs.neighbours.Neighbour.{read_at}
use Rattle.spatial.proofs.neighbours.records.Records.read_at.Goals as goal

pub returns-in-None : goal.returns-in-None
unfolding read_at
returns-in-None c = rw (← c.entry_in.ensures, c.in-None.is)

pub returns-in-Some : goal.returns-in-Some
unfolding read_at
returns-in-Some c = rw (← c.entry_in.ensures, c.in-Some.is, ← c.record_at.ensures)
