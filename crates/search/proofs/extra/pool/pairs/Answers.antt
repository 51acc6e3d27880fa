-- `search::extra::pool::pairs` meets its contract.
use Rattle.search.specs.Code.Pool.{pools_of}
use Rattle.search.specs.extra.Pool.{pair_at}
use Rattle.search.proofs.extra.pool.pairs.Goals as goal

pub returns : goal.returns
unfolding pools_of pair_at
returns c =
    let a = c.choose.ensures in
    let b = c.choose-2.ensures in
    (rw (a.0, b.0), rw (a.1, b.1))
