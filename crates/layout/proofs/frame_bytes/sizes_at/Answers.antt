-- `layout::frame_bytes::sizes_at` meets its contract.
use Rattle.layout.specs.FrameBytes.{sizes_at}
use Rattle.layout.proofs.frame_bytes.sizes_at.Goals as goal

pub returns : goal.returns
unfolding sizes_at
returns c = (cc)
