-- `search::candidates::plan::is_lacking` meets its contract.
use Rattle.std.proofs.Common.{rules, tests}
use Rattle.search.specs.candidates.Plan.{lacking}
use Rattle.search.proofs.candidates.plan.is_lacking.Goals as goal

pub returns-then-frame-lt-FRAME : goal.returns-then-frame-lt-FRAME
unfolding lacking
returns-then-frame-lt-FRAME c = search (rules, tests)

pub returns-else-frame-lt-FRAME : goal.returns-else-frame-lt-FRAME
unfolding lacking
returns-else-frame-lt-FRAME c = search (rules, tests)
