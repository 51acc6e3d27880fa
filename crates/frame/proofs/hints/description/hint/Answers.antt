-- `frame::hints::description::hint` meets its contract.
use Rattle.frame.specs.hints.Description.{hint_at}
use Rattle.std.proofs.Common.{rules}
use Rattle.frame.proofs.hints.description.hint.Goals as goal

pub returns : goal.returns
unfolding hint_at
returns c = search rules
