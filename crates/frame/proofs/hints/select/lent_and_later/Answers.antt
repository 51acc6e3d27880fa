-- `frame::hints::select::lent_and_later` meets its contract.
use mathlib.Core.Path.{ap, ◌∙◌}
use mir.Syntax.{w16}
use Rattle.ground.proofs.Bits.{kept}
use Rattle.frame.specs.hints.Distances.{from_current}
use Rattle.frame.proofs.hints.Described.{hint-fits}
use Rattle.frame.specs.hints.Selection.{later}
use Rattle.std.proofs.Common.{rules}
use Rattle.frame.proofs.hints.select.lent_and_later.Goals as goal

pub from_current-requires : goal.from_current-requires
from_current-requires c = (c.requires.0, hint-fits _ _ c.requires.0 c.hint.ensures (search rules))

pub returns-then-is_lent : goal.returns-then-is_lent
unfolding later
returns-then-is_lent c = let e = kept w16 c.from_current.type_inv (c.from_current.ensures ∙ ap (from_current c.args.d) c.hint.ensures) in rw (← c.is_lent.ensures, c.if-is_lent.true, c.ahead.ensures, e, c.from.ensures)

pub returns-else-is_lent : goal.returns-else-is_lent
unfolding later
returns-else-is_lent c = rw (← c.is_lent.ensures, c.if-is_lent.false)
