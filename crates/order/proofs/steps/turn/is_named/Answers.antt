-- `order::steps::turn::is_named` meets its contract.
use borrow.Author.Tests.{le-leb, lt-leb}
use Rattle.order.specs.steps.Turn.{names}
use Rattle.order.proofs.steps.turn.is_named.Goals as goal

pub returns-then-batch-le8 : goal.returns-then-batch-le8
unfolding names
returns-then-batch-le8 c = rw (le-leb _ _ c.if-batch-le8.true)

pub returns-else-batch-le8 : goal.returns-else-batch-le8
unfolding names
returns-else-batch-le8 c = rw (lt-leb _ _ c.if-batch-le8.false)
