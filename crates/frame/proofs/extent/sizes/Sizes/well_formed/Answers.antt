-- `frame::extent::sizes::Sizes::well_formed` meets its contract.
use Rattle.frame.specs.extent.Sizes.{well_sizes}
use Rattle.std.proofs.Common.{rules}
use Rattle.frame.proofs.extent.sizes.Sizes.well_formed.Goals as goal

pub returns-then-is_superblock : goal.returns-then-is_superblock
unfolding well_sizes
returns-then-is_superblock c = search rules

pub returns-else-is_superblock : goal.returns-else-is_superblock
unfolding well_sizes
returns-else-is_superblock c = search rules
