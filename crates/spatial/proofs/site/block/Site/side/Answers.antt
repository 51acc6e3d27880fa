-- `spatial::site::block::Site::side` meets its contract.
use Rattle.spatial.specs.site.Site.{side_of}
use Rattle.spatial.proofs.site.block.Site.side.Goals as goal

pub returns-then-down : goal.returns-then-down
unfolding side_of
returns-then-down c = rw c.if-down.true

pub returns : goal.returns
unfolding side_of
returns c = rw c.if-down.false
