-- `rows::table::row_of` meets its contract.
use Rattle.rows.specs.Table.{row_of}
use Rattle.std.proofs.Common.{rules}
use Rattle.rows.proofs.table.row_of.Goals as goal

pub returns-in-0 : goal.returns-in-0
unfolding row_of
returns-in-0 c = search rules

pub returns-in-2 : goal.returns-in-2
unfolding row_of
returns-in-2 c = search rules

pub returns-in-4 : goal.returns-in-4
unfolding row_of
returns-in-4 c = search rules

pub returns-in_default : goal.returns-in_default
unfolding row_of
returns-in_default c = search rules

pub returns-in_default-2 : goal.returns-in_default-2
unfolding row_of
returns-in_default-2 c = search rules

pub returns-in_default-2-2 : goal.returns-in_default-2-2
unfolding row_of
returns-in_default-2-2 c = search rules
