-- `spatial::around::near::point_where` meets its contract.
use native.Mathlib.Omega.{arith}
use Rattle.spatial.specs.Code.Scan.{scanned}
use Rattle.spatial.specs.around.Around.{point_where}
use Rattle.spatial.proofs.around.Places.{row-most}
use Rattle.spatial.proofs.around.near.point_where.Goals as goal

pub overflow_add-row_of : goal.overflow_add-row_of
overflow_add-row_of c = record { fits = omega (arith, c.row_of.ensures, row-most c.args.b) }

pub returns-then-here-clause-s_after : goal.returns-then-here-clause-s_after
unfolding point_where
returns-then-here-clause-s_after c =
    let r = c.point.ensures in rw (c.if-here.true, ← c.row_of.ensures) r.s_after

pub returns-clause-s_after : goal.returns-clause-s_after
unfolding point_where scanned
returns-clause-s_after c = rw c.if-here.false
