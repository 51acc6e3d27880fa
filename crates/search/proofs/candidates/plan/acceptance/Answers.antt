-- `search::candidates::plan::acceptance` meets its contract.
use Rattle.search.proofs.candidates.Plans.{accepts}
use Rattle.search.proofs.candidates.plan.acceptance.Goals as goal

pub returns : goal.returns
returns c =
    let f = c in
    accepts f.args.r f.args.s.now f.requires.0 f.requires.1 f.args.compound c.list-stack.ensures c.count_in-count.ensures
