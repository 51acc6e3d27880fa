-- `spatial::around::lines::odd_of` meets its contract.
use native.Mathlib.Omega.{arith}
use Rattle.spatial.specs.around.Lines.{odd_of}
use Rattle.spatial.proofs.around.lines.odd_of.Goals as goal

pub returns : goal.returns
unfolding odd_of
returns c = omega (arith, c.odd.ensures, c.halved.ensures)
