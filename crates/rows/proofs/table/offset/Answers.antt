-- `rows::table::offset` meets its contract.
use Rattle.rows.specs.Table.{offset_of}
use Rattle.std.proofs.Common.{rules}
use Rattle.rows.proofs.table.offset.Goals as goal

pub returns-then-sbsz-eq16 : goal.returns-then-sbsz-eq16
unfolding offset_of
returns-then-sbsz-eq16 c = search rules

pub returns-else-odd : goal.returns-else-odd
unfolding offset_of
returns-else-odd c = search rules
