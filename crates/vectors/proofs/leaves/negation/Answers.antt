-- `vectors::leaves::negation` meets its contract.
use Rattle.std.proofs.Common.{sym, ◌∙◌}
use Rattle.vector.proofs.Vectors.{within-is}
use Rattle.vectors.proofs.leaves.negation.Goals as goal

pub negated-requires : goal.negated-requires
negated-requires g c = (within-is 32767 _).1 (sym c.within.ensures ∙ c.if-within.true)
