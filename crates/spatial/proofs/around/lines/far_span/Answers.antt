-- `spatial::around::lines::far_span` meets its contract.
use native.Mathlib.Omega.{arith}
use Rattle.spatial.specs.around.Lines.{far_span}
use Rattle.spatial.proofs.site.Sides.{depth-most}
use Rattle.spatial.proofs.around.lines.far_span.Goals as goal

pub overflow_add-result : goal.overflow_add-result
overflow_add-result c = record { fits = omega (arith, c.depth.ensures, depth-most c.args.down c.args.b) }

pub returns : goal.returns
unfolding far_span
returns c = rw (← c.side-side.ensures, ← c.limit.ensures, ← c.depth.ensures, ← c.step_of.ensures)
