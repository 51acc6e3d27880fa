-- `rows::splats::splat::read_row` meets its contract.
use Rattle.rows.specs.splats.Splat.{row_read}
use Rattle.std.proofs.Common.{rules}
use Rattle.rows.proofs.splats.splat.read_row.Goals as goal

pub returns-in-None : goal.returns-in-None
unfolding row_read
returns-in-None c = search rules

pub returns-in-Some : goal.returns-in-Some
unfolding row_read
returns-in-Some c = search rules
