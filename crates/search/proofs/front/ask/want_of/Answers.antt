-- `search::front::ask::want_of` meets its contract.
use Rattle.search.specs.front.Ask.{want_of}
use Rattle.search.proofs.front.ask.want_of.Goals as goal

pub returns : goal.returns
unfolding want_of
returns c = rw (c.replacing-first.ensures, c.replacing-second.ensures)
