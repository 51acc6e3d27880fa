-- `cells::cell::Cell::saved_absent` meets its contract.
use mathlib.Core.Path.{◌∙◌}
use lib.IntN.{pos}
use Rattle.ground.proofs.Bits.{int_eq-is}
use Rattle.cells.specs.Cell.{saved_absent}
use Rattle.cells.proofs.cell.Cell.saved_absent.Goals as goal

pub returns : goal.returns
unfolding saved_absent
returns c = c.eq.ensures ∙ int_eq-is c.args.self.reference.0 (pos 0)
