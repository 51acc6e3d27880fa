-- `spatial::neighbours::read::side` meets its contract.
use Rattle.spatial.specs.neighbours.Neighbour.{side_of}
use Rattle.spatial.proofs.neighbours.read.side.Goals as goal

pub returns-then-down : goal.returns-then-down
unfolding side_of
returns-then-down c = rw (← c.dimensions.ensures, c.in-Some.is, c.if-down.true)

pub returns-in-None : goal.returns-in-None
unfolding side_of
returns-in-None c = rw (← c.dimensions.ensures, c.in-None.is)

pub returns-else-down : goal.returns-else-down
unfolding side_of
returns-else-down c = rw (← c.dimensions.ensures, c.in-Some.is, c.if-down.false)
