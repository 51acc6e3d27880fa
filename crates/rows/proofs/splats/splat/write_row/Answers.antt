-- `rows::splats::splat::write_row` meets its contract.
use native.Mathlib.Omega.{arith}
use Rattle.rows.proofs.splats.Splats.{row-there, row_at, row-absent}
use borrow.Author.Rules.{rules}
use Rattle.rows.proofs.splats.splat.write_row.Goals as goal

pub overflow_add-o : goal.overflow_add-o
overflow_add-o c = let h = row-there _ _ _ _ c.in-Some.is c.requires in search rules

pub write_copies-requires : goal.write_copies-requires
write_copies-requires c = let h = row-there _ _ _ _ c.in-Some.is c.requires in omega arith

pub returns-in-Some : goal.returns-in-Some
returns-in-Some c = row_at _ c.args.block _ _ _ _ c.in-Some.is c.write_copies.ensures

pub returns-in_default : goal.returns-in_default
returns-in_default c = row-absent _ c.args.block _ _ _ c.in_default.is
