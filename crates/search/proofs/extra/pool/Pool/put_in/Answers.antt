-- `search::extra::pool::Pool::put_in` meets its contract.
use Rattle.search.specs.Code.Pool.{pool_of}
use Rattle.search.specs.extra.Pool.{put}
use Rattle.search.proofs.extra.pool.Pool.put_in.Goals as goal

pub returns-then-is_own : goal.returns-then-is_own
unfolding pool_of put
returns-then-is_own c = rw (c.if-is_own.true, c.push.ensures)

pub returns : goal.returns
unfolding pool_of put
returns c = rw (c.if-is_own.false, c.push-2.ensures)
