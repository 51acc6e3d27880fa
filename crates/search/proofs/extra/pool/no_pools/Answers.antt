-- `search::extra::pool::no_pools` meets its contract.
use mathlib.Core.Path.{refl}
use Rattle.search.specs.Code.Pool.{pool_of, pools_of}
use Rattle.search.specs.extra.Pool.{nothing}
use Rattle.search.proofs.extra.pool.no_pools.Goals as goal

pub returns : goal.returns
unfolding pool_of pools_of nothing
returns c = refl
