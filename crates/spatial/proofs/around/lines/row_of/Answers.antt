-- `spatial::around::lines::row_of` meets its contract.
use mathlib.Core.Path.{refl}
use Rattle.spatial.specs.around.Lines.{row_of}
use Rattle.spatial.proofs.around.lines.row_of.Goals as goal

pub returns : goal.returns
unfolding row_of
returns c = refl
