-- `search::find::reach_of` meets its contract.
use mathlib.Core.Path.{refl}
use Rattle.search.specs.Find.{reach_of}
use Rattle.search.proofs.find.reach_of.Goals as goal

pub returns : goal.returns
unfolding reach_of
returns c = refl
