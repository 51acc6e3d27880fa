-- `frame::hints::distances::clipped` meets its contract.
use mathlib.Core.Path.{sym, ◌∙◌}
use mir.Syntax.{w16}
use mir.Facts.{to_z-of_z}
use Prim.Native.Nat.{min}
use Rattle.ground.proofs.Bits.{kept}
use Rattle.ground.proofs.Signs.{rebuilt, clip3-is}
use Rattle.frame.proofs.hints.distances.clipped.Goals as goal

pub returns : goal.returns
returns c = let b = c in
    kept w16 c.with_sign.type_inv
    (rebuilt (λ n. min n 31) c.with_sign.ensures b.negative.ensures c.min.ensures c.magnitude.ensures (to_z-of_z b.ranges.d)
    ∙ sym (clip3-is 31 b.args.d))
