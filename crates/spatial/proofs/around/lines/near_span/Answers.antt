-- `spatial::around::lines::near_span` meets its contract.
use Rattle.spatial.specs.around.Lines.{near_span}
use Rattle.spatial.proofs.around.lines.near_span.Goals as goal

pub returns : goal.returns
unfolding near_span
returns c = rw (← c.side-side.ensures, ← c.limit.ensures, ← c.depth.ensures, ← c.step_of.ensures)
