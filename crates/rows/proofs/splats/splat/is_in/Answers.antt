-- `rows::splats::splat::is_in` meets its contract.
use Rattle.rows.specs.splats.Splat.{holds}
use Rattle.std.proofs.Common.{rules}
use Rattle.rows.proofs.splats.splat.is_in.Goals as goal

pub returns-then-p-r : goal.returns-then-p-r
unfolding holds
returns-then-p-r c = search rules

pub returns-else-p-r : goal.returns-else-p-r
unfolding holds
returns-else-p-r c = search rules
