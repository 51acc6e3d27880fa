-- `vector::mv::Mv::is_invalid` meets its contract.
use mathlib.Core.Path.{◌∙◌}
use Rattle.vector.specs.Vector.{invalid}
use Rattle.vector.proofs.Vectors.{eq-is}
use Rattle.vector.proofs.mv.Mv.is_invalid.Goals as goal

pub returns : goal.returns
returns c = c.eq.ensures ∙ eq-is c.args.self invalid
