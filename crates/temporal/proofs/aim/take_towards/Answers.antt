-- `temporal::aim::take_towards` meets its contract.
use Rattle.std.proofs.Common.{◌≡◌, arith}
use Rattle.std.proofs.lemmas.Int.{to_z-of_z}
use Rattle.vector.specs.Vector.{both}
use Rattle.vector.specs.Projection.{projected}
use Rattle.vector.proofs.Projections.{projected-within}
use Rattle.temporal.specs.Temporal.{towards}
use Rattle.temporal.proofs.Aims.{wider, towards-within}
use Rattle.temporal.proofs.aim.take_towards.Goals as goal

pub fix_mv_precision-requires : goal.fix_mv_precision-requires
fix_mv_precision-requires c =
    let e : c.mv_projection.result ≡ both (projected c.args.num c.args.den) c.args.v = grind (arith, to_z-of_z) in
    rw e (wider _ (projected-within _ _ _))

pub returns : goal.returns
unfolding towards
returns c =
    let e : c.fix_mv_precision.result ≡ towards c.args.num c.args.den c.args.integer c.args.hp c.args.v = grind (arith, to_z-of_z) in
    (e, rw e (towards-within c.args.num c.args.den c.args.integer c.args.hp c.args.v))
