-- `spatial::site::block::Site::depth` meets its contract.
use Rattle.spatial.specs.site.Site.{depth_of}
use Rattle.spatial.proofs.site.block.Site.depth.Goals as goal

pub returns : goal.returns
unfolding depth_of
returns c = rw (c.min.ensures, c.most_lines.ensures, c.side.ensures, c.halved_up-lines.ensures, c.behind.ensures)
