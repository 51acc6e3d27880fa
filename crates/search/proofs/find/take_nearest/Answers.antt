-- `search::find::take_nearest` meets its contract.
use Rattle.stack.specs.Code.Found.{view}
use Rattle.search.proofs.find.take_nearest.Goals as goal

pub returns : goal.returns
unfolding view
returns c = (rw (c.count_in.ensures, c.matches.ensures.0, c.flag_in.ensures), c.matches.ensures.1)
