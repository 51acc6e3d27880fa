-- `layout::tile_bytes::range_at` meets its contract.
use Rattle.layout.proofs.tile_bytes.range_at.Goals as goal

pub returns : goal.returns
returns c = (cc)
