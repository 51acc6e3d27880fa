-- `layout::frame_bytes::hint_at` meets its contract.
use Rattle.layout.specs.FrameBytes.{ref_hint_at}
use mir.Syntax.{w16}
use Rattle.ground.proofs.Bits.{kept}
use Rattle.layout.proofs.frame_bytes.hint_at.Goals as goal

pub returns : goal.returns
unfolding ref_hint_at
returns c = rw (kept w16 c.read_half.type_inv c.read_half.ensures)
