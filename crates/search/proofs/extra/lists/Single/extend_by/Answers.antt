-- `search::extra::lists::Single::extend_by` meets its contract.
use Rattle.search.specs.extra.Lists.{list_of}
use Rattle.search.proofs.extra.lists.Single.extend_by.Goals as goal

pub returns : goal.returns
unfolding list_of
returns c = let t = c.add_new.ensures in (t.0, t.1, rw (← c.turn-first.ensures) t.2)
