-- `vector::mv::Mv::read` meets its contract.
use mathlib.Core.Path.{ap, ◌∙◌}
use Rattle.vector.specs.Vector.{mv_of}
use Rattle.vector.proofs.Words.{of_four}
use Rattle.vector.proofs.mv.Mv.read.Goals as goal

pub returns : goal.returns
returns c = c.of_bits.ensures ∙ ap mv_of c.u32_at.ensures ∙ of_four c.args.s.now c.args.at (λ j. (c.type_inv.s j).fits)
