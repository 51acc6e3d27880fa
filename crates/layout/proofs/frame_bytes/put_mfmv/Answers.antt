-- `layout::frame_bytes::put_mfmv` meets its contract.
use mathlib.Core.Path.{◌≡◌, ◌∙◌}
use lib.ListN.{length, length-set}
use Rattle.layout.specs.FrameBytes.{cur_number, mfmv_bytes}
use Rattle.layout.proofs.Pieces.{in_three, all-seven}
use mir.Syntax.{w16}
use Rattle.ground.proofs.Bits.{kept}
use native.Mathlib.Omega.{arith}
use borrow.Author.Rules.{rules}
use Rattle.layout.proofs.frame_bytes.put_mfmv.Goals as goal

pub write_half-requires : goal.write_half-requires
write_half-requires c = simp length-set (omega arith)

pub put_bytes-requires : goal.put_bytes-requires
put_bytes-requires c = let k = simp length-set at c.write_half.auto.s in let n : length c.args.m.ref2ref ≡ 7 = search rules in omega arith

pub shape_of-s : goal.shape_of-s
shape_of-s c = c.put_bytes.auto.s ∙ c.write_half.auto.s ∙ simp length-set

pub returns : goal.returns
unfolding mfmv_bytes
returns c = let a = c.args in let n : length a.m.ref2ref ≡ 7 = search rules in rw (c.put_bytes.ensures, c.write_half.ensures, kept w16 c.cur_number.type_inv c.cur_number.ensures, ← all-seven a.m.ref2ref n) (in_three a.s.now a.at a.m.reference (cur_number a.m.ref2cur) a.m.ref2ref)
