-- `search::extend::extra_limit` meets its contract.
use mathlib.Core.Bool.{false}
use native.Mathlib.Omega.{arith}
use Rattle.spatial.proofs.site.Sides.{limit-most}
use Rattle.search.specs.Extend.{extra_limit}
use Rattle.search.proofs.extend.extra_limit.Goals as goal

pub returns : goal.returns
unfolding extra_limit
returns c = (rw (c.min.ensures, c.limit-2.ensures, c.limit.ensures), omega (arith, c.min.ensures, c.limit.ensures, limit-most false c.args.b))
