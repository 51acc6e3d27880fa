-- `layout::frame_bytes::frame_at` meets its contract.
use Rattle.layout.specs.FrameBytes.{frame_at}
use Rattle.layout.proofs.frame_bytes.frame_at.Goals as goal

pub returns : goal.returns
unfolding frame_at
returns c = (cc)
