-- `layout::frame_bytes::put_slot` meets its contract.
use Rattle.layout.proofs.frame_bytes.put_slot.Goals as goal

pub returns : goal.returns
returns c = rw (c.put_mfmv.ensures, c.slot.ensures)
