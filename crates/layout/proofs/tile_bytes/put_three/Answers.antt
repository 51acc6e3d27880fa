-- `layout::tile_bytes::put_three` meets its contract.
use Rattle.layout.specs.TileBytes.{place_number}
use Rattle.layout.proofs.tile_bytes.put_three.Goals as goal

pub returns : goal.returns
unfolding place_number
returns c = rw (c.put_entry-3.ensures, c.put_entry-2.ensures, c.put_entry.ensures)
