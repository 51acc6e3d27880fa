-- `search::front::ask::global_of` meets its contract.
use Rattle.search.specs.front.Ask.{global_of}
use Rattle.search.proofs.front.ask.global_of.Goals as goal

pub returns : goal.returns
unfolding global_of
returns c = rw (c.filling-first.ensures, c.filling-second.ensures)
