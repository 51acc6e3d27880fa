-- `cells::cell::Ref::from_to` meets its contract.
use mathlib.Core.Path.{◌∙◌}
use mir.Syntax.{w8}
use mir.Facts.{to_z-of_z}
use borrow.Author.Rules.{rules}
use Rattle.ground.proofs.Bits.{same}
use Rattle.ground.proofs.Signs.{ranged, unranged}
use Rattle.cells.proofs.cell.Ref.from_to.Goals as goal

pub returns-then-lo-self : goal.returns-then-lo-self
returns-then-lo-self c = ranged (to_z-of_z c.ranges.lo) (same w8 c.args.self.0 (search rules)) (to_z-of_z c.ranges.hi) c.if-lo-self.true

pub returns-else-lo-self : goal.returns-else-lo-self
returns-else-lo-self c = c.if-lo-self.false ∙ unranged c.args.hi (to_z-of_z c.ranges.lo) (same w8 c.args.self.0 (search rules)) c.if-lo-self.false
