-- `layout::tile_bytes::proj_in` meets its contract.
use Rattle.layout.specs.TileBytes.{tile_at}
use Rattle.layout.proofs.tile_bytes.proj_in.Goals as goal

pub returns : goal.returns
unfolding tile_at
returns c = c.size_at.ensures
