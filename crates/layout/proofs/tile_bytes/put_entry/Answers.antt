-- `layout::tile_bytes::put_entry` meets its contract.
use Rattle.layout.proofs.tile_bytes.put_entry.Goals as goal

pub returns : goal.returns
returns c = rw (c.put_size.ensures, c.number_of.ensures)
