-- `vectors::leaves::precision` meets its contract.
use Rattle.std.proofs.Common.{sym, ◌∙◌}
use Rattle.vector.proofs.Vectors.{within-is}
use Rattle.vectors.proofs.leaves.precision.Goals as goal

pub fix_mv_precision-requires : goal.fix_mv_precision-requires
fix_mv_precision-requires g c = (within-is 16384 _).1 (sym c.within.ensures ∙ c.if-within.true)
