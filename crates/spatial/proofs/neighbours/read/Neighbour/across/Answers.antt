-- `spatial::neighbours::read::Neighbour::across` meets its contract.
use Rattle.spatial.specs.neighbours.Neighbour.{across_of}
use Rattle.spatial.proofs.neighbours.read.Neighbour.across.Goals as goal

pub returns : goal.returns
unfolding across_of
returns c = c.side.ensures
