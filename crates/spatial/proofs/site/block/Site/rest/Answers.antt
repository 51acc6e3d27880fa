-- `spatial::site::block::Site::rest` meets its contract.
use Rattle.spatial.specs.site.Site.{rest_of}
use Rattle.spatial.proofs.site.block.Site.rest.Goals as goal

pub returns-then-down : goal.returns-then-down
unfolding rest_of
returns-then-down c = rw c.if-down.true

pub returns : goal.returns
unfolding rest_of
returns c = rw c.if-down.false
