-- `layout::frame_bytes::put_hint` meets its contract.
use Rattle.layout.specs.FrameBytes.{hint_bytes}
use mathlib.Core.Path.{◌∙◌}
use native.Mathlib.Numerals.{add-one, add-two}
use native.Mathlib.Omega.{arith}
use lib.ListN.{length-set}
use mir.Syntax.{w16}
use Rattle.ground.specs.Put.{put}
use Rattle.ground.proofs.Bits.{same}
use borrow.Author.Rules.{rules}
use Rattle.layout.proofs.frame_bytes.put_hint.Goals as goal

pub bounds-s-at-2 : goal.bounds-s-at-2
bounds-s-at-2 c = simp length-set (omega arith)

pub write_half-requires : goal.write_half-requires
write_half-requires c = simp length-set (omega arith)

pub shape_of-s : goal.shape_of-s
shape_of-s c = c.write_half.auto.s ∙ simp length-set

pub returns : goal.returns
unfolding put hint_bytes
returns c = let a = c.args in rw (c.write_half.ensures, same w16 a.h.pocdiff (search rules), add-one, add-two)
