-- `frame::extent::sizes::one_to` meets its contract.
use Rattle.frame.specs.extent.Sizes.{one_to}
use Rattle.std.proofs.Common.{rules}
use Rattle.frame.proofs.extent.sizes.one_to.Goals as goal

pub returns-then-n-ge1 : goal.returns-then-n-ge1
unfolding one_to
returns-then-n-ge1 c = search rules

pub returns-else-n-ge1 : goal.returns-else-n-ge1
unfolding one_to
returns-else-n-ge1 c = search rules
