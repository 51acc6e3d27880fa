-- `spatial::neighbours::read::judge` meets its contract.
use Rattle.spatial.specs.neighbours.Neighbour.{judged}
use Rattle.spatial.proofs.neighbours.read.judge.Goals as goal

pub returns-then-well_formed : goal.returns-then-well_formed
unfolding judged
returns-then-well_formed c = rw (← c.well_formed-2.ensures, c.if-well_formed.true)

pub returns : goal.returns
unfolding judged
returns c = rw (← c.well_formed-2.ensures, c.if-well_formed.false)
