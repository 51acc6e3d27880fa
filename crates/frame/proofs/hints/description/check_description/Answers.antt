-- `frame::hints::description::check_description` meets its contract.
use Rattle.frame.specs.hints.Description.{setup_answer, sized}
use Rattle.std.proofs.Common.{rules}
use Rattle.frame.proofs.hints.description.check_description.Goals as goal

pub returns-then-not-flags_fit : goal.returns-then-not-flags_fit
unfolding setup_answer sized
returns-then-not-flags_fit c = search rules

pub returns-then-hints_fit : goal.returns-then-hints_fit
unfolding setup_answer sized
returns-then-hints_fit c = search rules

pub returns-else-hints_fit : goal.returns-else-hints_fit
unfolding setup_answer sized
returns-else-hints_fit c = search rules
