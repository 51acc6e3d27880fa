-- `spatial::neighbours::read::Neighbour::along` meets its contract.
use Rattle.spatial.specs.neighbours.Neighbour.{along_of}
use Rattle.spatial.proofs.neighbours.read.Neighbour.along.Goals as goal

pub returns : goal.returns
unfolding along_of
returns c = c.side.ensures
