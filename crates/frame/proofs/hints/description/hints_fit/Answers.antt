-- `frame::hints::description::hints_fit` meets its contract.
use Rattle.frame.specs.hints.Description.{hinted}
use Rattle.std.proofs.Common.{rules}
use Rattle.frame.proofs.hints.description.hints_fit.Goals as goal

pub returns-then-all_fit : goal.returns-then-all_fit
unfolding hinted
returns-then-all_fit c = search rules

pub returns-else-all_fit : goal.returns-else-all_fit
unfolding hinted
returns-else-all_fit c = search rules
