-- `layout::tile_bytes::number_of` meets its contract.
use Rattle.layout.specs.TileBytes.{place_number}
use Rattle.layout.proofs.tile_bytes.number_of.Goals as goal

pub returns-in-None : goal.returns-in-None
unfolding place_number
returns-in-None c = rw c.in-None.is

pub returns-in-Some : goal.returns-in-Some
unfolding place_number
returns-in-Some c = rw c.in-Some.is
