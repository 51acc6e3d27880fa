-- `layout::frame_bytes::cur_number` meets its contract.
use Rattle.layout.specs.FrameBytes.{cur_number}
use mir.Syntax.{w16}
use Rattle.ground.proofs.Bits.{same}
use borrow.Author.Rules.{rules}
use Rattle.layout.proofs.frame_bytes.cur_number.Goals as goal

pub returns-in-None : goal.returns-in-None
unfolding cur_number
returns-in-None c = rw c.in-None.is

pub returns-in-Some : goal.returns-in-Some
unfolding cur_number
returns-in-Some c = rw c.in-Some.is (same w16 c.in-Some.z (search rules))
