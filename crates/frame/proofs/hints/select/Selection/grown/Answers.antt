-- `frame::hints::select::Selection::grown` meets its contract.
use Rattle.frame.specs.hints.Selection.{grown_of}
use Rattle.frame.proofs.hints.select.Selection.grown.Goals as goal

pub returns-then-take : goal.returns-then-take
unfolding grown_of
returns-then-take c = rw c.if-take.true

pub returns : goal.returns
unfolding grown_of
returns c = rw c.if-take.false
