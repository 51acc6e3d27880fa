-- `layout::tile_bytes::columns_at` meets its contract.
use Rattle.layout.specs.TileBytes.{tile_at}
use Rattle.layout.proofs.tile_bytes.columns_at.Goals as goal

pub returns : goal.returns
unfolding tile_at
returns c = c.range_at.ensures
