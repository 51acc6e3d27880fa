-- `frame::hints::select::is_searched` meets its contract.
use Rattle.frame.specs.hints.Selection.{searched}
use Rattle.std.proofs.Common.{rules}
use Rattle.frame.proofs.hints.select.is_searched.Goals as goal

pub returns-then-d-eq1 : goal.returns-then-d-eq1
unfolding searched
returns-then-d-eq1 c = search rules

pub returns-else-d-eq1 : goal.returns-else-d-eq1
unfolding searched
returns-else-d-eq1 c = search rules
