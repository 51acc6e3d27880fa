-- `vector::projection::project` meets its contract.
use native.Mathlib.Omega.{arith}
use mir.Syntax.{w16}
use mir.Facts.{to_z-of_z}
use Rattle.vector.proofs.Projections.{reprojected}
use Rattle.ground.proofs.Bits.{kept}
use Rattle.vector.proofs.projection.project.Goals as goal

pub scaled-m-requires : goal.scaled-m-requires
scaled-m-requires c =
    let e = rw (to_z-of_z c.ranges.c) at c.magnitude.ensures in
    let f = rw (to_z-of_z c.ranges.num) at c.magnitude-2.ensures in
    omega arith

pub returns : goal.returns
returns c =
    let n = c in
    let m = n in
    kept w16 c.with_sign.type_inv
    (reprojected m.args.den c.with_sign.ensures n.negative.ensures c.negative-2.ensures
    n.scaled-m.ensures m.magnitude.ensures m.magnitude-2.ensures (to_z-of_z m.ranges.c)
    (to_z-of_z m.ranges.num))
