-- `layout::frame_bytes::mfmv_at` meets its contract.
use Rattle.layout.specs.FrameBytes.{cur_of, mfmv_at}
use mathlib.Core.Path.{ap, ◌∙◌}
use mir.Syntax.{w16}
use Rattle.ground.proofs.Bits.{kept}
use Rattle.layout.proofs.frame_bytes.mfmv_at.Goals as goal

pub returns : goal.returns
unfolding mfmv_at
returns c = let k = c.cur_of-ref2cur.ensures ∙ ap cur_of (kept w16 c.read_half.type_inv c.read_half.ensures) in rw (k, c.offsets_at-ref2ref.ensures)
