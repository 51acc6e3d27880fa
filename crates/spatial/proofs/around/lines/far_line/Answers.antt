-- `spatial::around::lines::far_line` meets its contract.
use mathlib.Core.Path.{◌≡◌}
use Prim.Native.Nat.{◌+◌, ◌-◌, ◌*◌, ◌/◌}
use native.Mathlib.Omega.{arith}
use Rattle.spatial.specs.around.Lines.{far_line}
use Rattle.spatial.proofs.around.Places.{row-most, odd-most, inside}
use Rattle.spatial.proofs.around.lines.far_line.Goals as goal

pub overflow_add-result : goal.overflow_add-result
overflow_add-result c = let r = c.row_of-row in record { fits = omega (arith, c.odd_of.ensures, odd-most r.result.0, r.ensures, row-most c.args.b) }

pub overflow_sub-b : goal.overflow_sub-b
overflow_sub-b c = let s = c.args in omega (arith, inside s.down s.b c.if-down.true, c.requires.1, c.requires.3, c.odd-off.ensures)

pub returns-then-down : goal.returns-then-down
unfolding far_line
returns-then-down c =
    let a = c.args in
    let e : a.b.x.0 + 1 - 2 * a.n ≡ a.b.x.0 - c.odd-off.result.0 = omega (arith, c.odd-off.ensures, c.requires.1) in
    rw (c.if-down.true, ← c.row_of-row.ensures, ← c.odd_of.ensures, e, ← c.odd_of-then-down.ensures)

pub overflow_add-row : goal.overflow_add-row
overflow_add-row c = record { fits = omega (arith, c.row_of-row.ensures, row-most c.args.b) }

pub doubled-requires : goal.doubled-requires
doubled-requires c = omega (arith, c.halved.ensures, c.row_of-row.ensures, row-most c.args.b)

pub returns : goal.returns
unfolding far_line
returns c =
    let r = c.row_of-row.result in
    let e : (r.0 + 7 - 2 * c.args.n) / 2 * 2 ≡ c.doubled.result.0 = omega (arith, c.doubled.ensures, c.halved.ensures, c.odd-off.ensures, c.requires.1) in
    rw (c.if-down.false, ← c.row_of-row.ensures, e, ← c.odd_of-2.ensures)
