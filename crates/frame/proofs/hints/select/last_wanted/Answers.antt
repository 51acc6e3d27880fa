-- `frame::hints::select::last_wanted` meets its contract.
use Rattle.frame.specs.hints.Selection.{last_wanted}
use Rattle.std.proofs.Common.{rules}
use Rattle.frame.proofs.hints.select.last_wanted.Goals as goal

pub returns-then-is_lent : goal.returns-then-is_lent
unfolding last_wanted
returns-then-is_lent c = search rules

pub returns-else-is_lent : goal.returns-else-is_lent
unfolding last_wanted
returns-else-is_lent c = search rules
