-- `search::extra::pool::Two::push` meets its contract.
use Rattle.search.specs.extra.Pool.{pushed}
use Rattle.search.proofs.extra.pool.Two.push.Goals as goal

pub returns-in-Empty : goal.returns-in-Empty
unfolding pushed
returns-in-Empty c = rw c.in-Empty.is

pub returns-in-One : goal.returns-in-One
unfolding pushed
returns-in-One c = rw c.in-One.is

pub returns-in-Both : goal.returns-in-Both
unfolding pushed
returns-in-Both c = rw c.in-Both.is
