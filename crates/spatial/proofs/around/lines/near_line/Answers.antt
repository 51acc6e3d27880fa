-- `spatial::around::lines::near_line` meets its contract.
use native.Mathlib.Omega.{arith}
use Rattle.spatial.specs.around.Lines.{near_line}
use Rattle.spatial.proofs.around.Places.{row-most, inside}
use Rattle.spatial.proofs.around.lines.near_line.Goals as goal

pub overflow_add-result : goal.overflow_add-result
overflow_add-result c = record { fits = omega (arith, c.row_of-row.ensures, row-most c.args.b) }

pub overflow_sub-result : goal.overflow_sub-result
overflow_sub-result c = let a = c.args in omega (arith, inside a.down a.b c.if-down.true, c.requires.1)

pub returns-then-down : goal.returns-then-down
unfolding near_line
returns-then-down c = rw (c.if-down.true, ← c.row_of-row.ensures)

pub overflow_add-result-2 : goal.overflow_add-result-2
overflow_add-result-2 c = record { fits = omega (arith, c.row_of-row.ensures, row-most c.args.b) }

pub returns : goal.returns
unfolding near_line
returns c = rw (c.if-down.false, ← c.row_of-row.ensures)
