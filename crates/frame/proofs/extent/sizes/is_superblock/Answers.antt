-- `frame::extent::sizes::is_superblock` meets its contract.
use Rattle.frame.specs.extent.Sizes.{superblock}
use Rattle.std.proofs.Common.{rules}
use Rattle.frame.proofs.extent.sizes.is_superblock.Goals as goal

pub returns-then-sbsz-eq16 : goal.returns-then-sbsz-eq16
unfolding superblock
returns-then-sbsz-eq16 c = search rules

pub returns-else-sbsz-eq16 : goal.returns-else-sbsz-eq16
unfolding superblock
returns-else-sbsz-eq16 c = search rules
