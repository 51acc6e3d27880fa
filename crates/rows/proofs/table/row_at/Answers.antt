-- `rows::table::row_at` meets its contract.
use Rattle.rows.specs.Table.{row_at}
use Rattle.std.proofs.Common.{rules}
use Rattle.rows.proofs.table.row_at.Goals as goal

pub returns-in_err-line : goal.returns-in_err-line
unfolding row_at
returns-in_err-line c = search rules

pub returns : goal.returns
unfolding row_at
returns c = search rules
