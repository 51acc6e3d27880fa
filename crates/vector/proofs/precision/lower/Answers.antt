-- `vector::precision::lower` meets its contract.
use native.Mathlib.Omega.{arith}
use mir.Syntax.{w16}
use mir.Facts.{to_z-of_z}
use Rattle.vector.specs.Precision.{lower_mag, lowered}
use Rattle.ground.proofs.Bits.{kept}
use Rattle.ground.proofs.Signs.{rebuilt}
use Rattle.vector.proofs.precision.lower.Goals as goal

pub lower_magnitude-m-requires : goal.lower_magnitude-m-requires
lower_magnitude-m-requires c = let e = rw (to_z-of_z c.ranges.c) at c.magnitude.ensures in omega arith

pub returns : goal.returns
unfolding lowered
returns c =
    let b = c in
    kept w16 c.with_sign.type_inv
    (rebuilt (lower_mag b.args.integer b.args.hp) c.with_sign.ensures c.negative.ensures
    c.lower_magnitude-m.ensures.0 b.magnitude.ensures (to_z-of_z b.ranges.c))
