-- `search::extra::pool::Pool::choose` meets its contract.
use mathlib.Core.Path.{refl}
use Rattle.search.specs.Code.Pool.{pool_of}
use Rattle.search.specs.extra.Pool.{chosen}
use Rattle.search.proofs.extra.pool.Pool.choose.Goals as goal

pub returns-in-Both-default : goal.returns-in-Both-default
unfolding pool_of chosen
returns-in-Both-default c = rw c.in-Both-default.is-0 (refl, refl)

pub returns-in-One-Both : goal.returns-in-One-Both
unfolding pool_of chosen
returns-in-One-Both c = rw (c.in-One-Both.is-0, c.in-One-Both.is-1) (refl, refl)

pub returns-in-One-One : goal.returns-in-One-One
unfolding pool_of chosen
returns-in-One-One c = rw (c.in-One-One.is-0, c.in-One-One.is-1) (refl, refl)

pub returns-in-One-Empty : goal.returns-in-One-Empty
unfolding pool_of chosen
returns-in-One-Empty c = rw (c.in-One-Empty.is-0, c.in-One-Empty.is-1) (refl, refl)

pub returns-in-Empty-Both : goal.returns-in-Empty-Both
unfolding pool_of chosen
returns-in-Empty-Both c = rw (c.in-Empty-Both.is-0, c.in-Empty-Both.is-1) (refl, refl)

pub returns-in-Empty-One : goal.returns-in-Empty-One
unfolding pool_of chosen
returns-in-Empty-One c = rw (c.in-Empty-One.is-0, c.in-Empty-One.is-1) (refl, refl)

pub returns-in-Empty-Empty : goal.returns-in-Empty-Empty
unfolding pool_of chosen
returns-in-Empty-Empty c = rw (c.in-Empty-Empty.is-0, c.in-Empty-Empty.is-1) (refl, refl)
