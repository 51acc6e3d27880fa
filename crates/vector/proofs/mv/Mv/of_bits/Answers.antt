-- `vector::mv::Mv::of_bits` meets its contract.
use mir.Syntax.{w16}
use Rattle.ground.proofs.Bits.{kept}
use Rattle.vector.specs.Vector.{mv_of}
use Rattle.vector.proofs.Vectors.{vector}
use Rattle.vector.proofs.mv.Mv.of_bits.Goals as goal

pub returns : goal.returns
unfolding mv_of
returns c = vector (kept w16 c.signed_half-y.type_inv c.signed_half-y.ensures) (kept w16 c.signed_half-x.type_inv c.signed_half-x.ensures)
