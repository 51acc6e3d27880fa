-- `vector::mv::Mv::bits` meets its contract.
use mir.Syntax.{w16}
use mathlib.Core.Path.{ap, ◌∙◌}
use Rattle.ground.specs.Twos.{bits16}
use Rattle.ground.proofs.Bits.{same}
use Rattle.vector.specs.Vector.{mv_bits}
use borrow.Author.Rules.{rules}
use Rattle.vector.proofs.mv.Mv.bits.Goals as goal

pub returns : goal.returns
unfolding mv_bits
returns c =
    let v = c.args.self in
    rw (c.half_bits.ensures ∙ ap bits16 (same w16 v.y (search rules)), c.half_bits-2.ensures ∙ ap bits16 (same w16 v.x (search rules)))
