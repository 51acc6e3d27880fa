-- `layout::frame_bytes::put_numbers` meets its contract.
use Rattle.layout.specs.FrameBytes.{size_numbers}
use Rattle.layout.proofs.frame_bytes.put_numbers.Goals as goal

pub returns : goal.returns
unfolding size_numbers
returns c = c.put_sizes.ensures
