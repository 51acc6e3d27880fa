-- `spatial::around::lines::step_of` meets its contract.
use borrow.Author.Tests.{lt-ltb, le-ltb}
use Rattle.spatial.specs.around.Lines.{step_of}
use Rattle.spatial.proofs.around.lines.step_of.Goals as goal

pub returns-then-side-lt16 : goal.returns-then-side-lt16
unfolding step_of
returns-then-side-lt16 c = rw (lt-ltb _ _ c.if-side-lt16.true)

pub returns-else-side-lt16 : goal.returns-else-side-lt16
unfolding step_of
returns-else-side-lt16 c = rw (le-ltb _ _ c.if-side-lt16.false)
