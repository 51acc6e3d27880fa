-- `search::front::ask::filling` meets its contract.
use Rattle.search.specs.front.Ask.{filling_of}
use Rattle.search.proofs.front.ask.filling.Goals as goal

pub returns-then-is_ref : goal.returns-then-is_ref
unfolding filling_of
returns-then-is_ref c = rw (← c.is_ref.ensures, c.if-is_ref.true)

pub returns-else-is_ref : goal.returns-else-is_ref
unfolding filling_of
returns-else-is_ref c = rw (← c.is_ref.ensures, c.if-is_ref.false)
