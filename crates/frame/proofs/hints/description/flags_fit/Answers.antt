-- `frame::hints::description::flags_fit` meets its contract.
use Rattle.frame.specs.hints.Description.{flags}
use Rattle.std.proofs.Common.{rules}
use Rattle.frame.proofs.hints.description.flags_fit.Goals as goal

pub returns-then-d-le1-2 : goal.returns-then-d-le1-2
unfolding flags
returns-then-d-le1-2 c = search rules

pub returns-else-d-le1-2 : goal.returns-else-d-le1-2
unfolding flags
returns-else-d-le1-2 c = search rules
