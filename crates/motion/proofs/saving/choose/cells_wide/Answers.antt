-- `motion::saving::choose::cells_wide` meets its contract.
use Rattle.motion.proofs.saving.Walks.{wide_of, wide-none}
use Rattle.motion.proofs.saving.choose.cells_wide.Goals as goal

pub returns-in-Some : goal.returns-in-Some
returns-in-Some c = wide_of _ _ _ c.dimensions.ensures c.in-Some.is c.halved_up.ensures

pub returns-in-None : goal.returns-in-None
returns-in-None c = wide-none _ _ c.dimensions.ensures c.in-None.is
