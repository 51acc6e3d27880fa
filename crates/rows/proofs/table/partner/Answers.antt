-- `rows::table::partner` meets its contract.
use Rattle.rows.specs.Table as tables
use Rattle.std.proofs.Common.{rules}
use Rattle.rows.proofs.table.partner.Goals as goal

pub returns-in-0 : goal.returns-in-0
unfolding tables.partner
returns-in-0 c = search rules

pub returns-in-2 : goal.returns-in-2
unfolding tables.partner
returns-in-2 c = search rules

pub returns-in-4 : goal.returns-in-4
unfolding tables.partner
returns-in-4 c = search rules

pub returns-in_default : goal.returns-in_default
unfolding tables.partner
returns-in_default c = search rules

pub returns-in_default-2 : goal.returns-in_default-2
unfolding tables.partner
returns-in_default-2 c = search rules

pub returns-in_default-3 : goal.returns-in_default-3
unfolding tables.partner
returns-in_default-3 c = search rules

pub returns-in_default-4 : goal.returns-in_default-4
unfolding tables.partner
returns-in_default-4 c = search rules
