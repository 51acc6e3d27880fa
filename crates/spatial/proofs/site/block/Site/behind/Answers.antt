-- `spatial::site::block::Site::behind` meets its contract.
use Rattle.spatial.specs.site.Site.{behind_of}
use Rattle.spatial.proofs.site.block.Site.behind.Goals as goal

pub returns-then-down : goal.returns-then-down
unfolding behind_of
returns-then-down c = rw c.if-down.true

pub returns : goal.returns
unfolding behind_of
returns c = rw c.if-down.false
