-- `frame::extent::sizes::limited` meets its contract.
use Rattle.frame.specs.extent.Sizes.{limits}
use Rattle.std.proofs.Common.{rules}
use Rattle.frame.proofs.extent.sizes.limited.Goals as goal

pub returns-then-one_to-4 : goal.returns-then-one_to-4
unfolding limits
returns-then-one_to-4 c = search rules

pub returns-else-one_to-4 : goal.returns-else-one_to-4
unfolding limits
returns-else-one_to-4 c = search rules
