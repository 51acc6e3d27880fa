-- `spatial::around::near::has_right` meets its contract.
use Rattle.std.proofs.Common.{rules, tests}
use Rattle.spatial.specs.around.Around.{has_right}
use Rattle.spatial.proofs.around.near.has_right.Goals as goal

pub returns-then-b-le16-2 : goal.returns-then-b-le16-2
unfolding has_right
returns-then-b-le16-2 c = search (rules, tests)

pub returns-else-b-le16-2 : goal.returns-else-b-le16-2
unfolding has_right
returns-else-b-le16-2 c = search (rules, tests)
