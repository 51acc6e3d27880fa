-- `search::front::ask::dims_of` meets its contract.
use Rattle.search.specs.front.Ask.{dims_of}
use Rattle.search.proofs.front.ask.dims_of.Goals as goal

pub returns-in-Some : goal.returns-in-Some
unfolding dims_of
returns-in-Some c = rw (← c.dimensions.ensures, c.in-Some.is)

pub returns-in-None : goal.returns-in-None
unfolding dims_of
returns-in-None c = rw (← c.dimensions.ensures, c.in-None.is)
