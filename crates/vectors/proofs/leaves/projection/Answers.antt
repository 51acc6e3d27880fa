-- `vectors::leaves::projection` meets its contract.
use Rattle.std.proofs.Common.{sym, ◌∙◌, arith}
use Rattle.vector.proofs.Vectors.{within-is}
use Rattle.vectors.proofs.leaves.projection.Goals as goal

pub mv_projection-requires : goal.mv_projection-requires
mv_projection-requires g c = (
  (within-is 4095 _).1 (sym c.within.ensures ∙ c.if-within.true),
  omega (arith, c.magnitude.ensures),
  c.if-den-gt0.true,
  c.if-den-lt32.true,
)
