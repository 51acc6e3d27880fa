-- `search::candidates::plan::refusal` meets its contract.
use Rattle.search.proofs.candidates.Plans.{refuses}
use Rattle.search.proofs.candidates.plan.refusal.Goals as goal

pub returns : goal.returns
returns c = refuses _ _ c.no_candidate-none.ensures
