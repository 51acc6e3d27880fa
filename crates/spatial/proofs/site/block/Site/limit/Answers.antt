-- `spatial::site::block::Site::limit` meets its contract.
use Rattle.spatial.specs.site.Site.{limit_of}
use Rattle.spatial.proofs.site.block.Site.limit.Goals as goal

pub returns : goal.returns
unfolding limit_of
returns c = rw (c.min-2.ensures, c.rest.ensures, c.min.ensures, c.side.ensures)
