-- `frame::hints::select::is_lent` meets its contract.
use Rattle.frame.specs.hints.Selection.{lent}
use Rattle.std.proofs.Common.{rules}
use Rattle.frame.proofs.hints.select.is_lent.Goals as goal

pub returns : goal.returns
unfolding lent
returns c = search rules
