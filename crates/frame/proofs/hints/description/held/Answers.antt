-- `frame::hints::description::held` meets its contract.
use Rattle.frame.specs.hints.Description.{held_at}
use Rattle.std.proofs.Common.{rules}
use Rattle.frame.proofs.hints.description.held.Goals as goal

pub returns : goal.returns
unfolding held_at
returns c = search rules
