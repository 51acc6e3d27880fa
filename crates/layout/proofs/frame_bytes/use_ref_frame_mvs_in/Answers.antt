-- `layout::frame_bytes::use_ref_frame_mvs_in` meets its contract.
use Rattle.layout.specs.FrameBytes.{frame_at}
use Rattle.layout.proofs.frame_bytes.use_ref_frame_mvs_in.Goals as goal

pub returns : goal.returns
unfolding frame_at
returns c = c.flag_at.ensures
