-- `layout::frame_bytes::temporal_in` meets its contract.
use Rattle.layout.specs.FrameBytes.{frame_at}
use Rattle.layout.proofs.frame_bytes.temporal_in.Goals as goal

pub returns : goal.returns
unfolding frame_at
returns c = c.flag_at.ensures
