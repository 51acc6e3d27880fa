-- `layout::tile_bytes::entry_at` meets its contract.
use Rattle.layout.specs.TileBytes.{entry_in}
use Rattle.layout.proofs.tile_bytes.entry_at.Goals as goal

pub returns : goal.returns
unfolding entry_in
returns c = rw (c.place_of-at.ensures, c.size_at.ensures)
