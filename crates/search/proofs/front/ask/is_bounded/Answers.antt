-- `search::front::ask::is_bounded` meets its contract.
use Rattle.std.proofs.Common.{rules, tests}
use Rattle.search.specs.front.Ask.{bounded}
use Rattle.search.proofs.front.ask.is_bounded.Goals as goal

pub returns-then-not-is_ref : goal.returns-then-not-is_ref
unfolding bounded
returns-then-not-is_ref c = search (rules, tests)

pub returns-else-not-is_ref : goal.returns-else-not-is_ref
unfolding bounded
returns-else-not-is_ref c = search (rules, tests)
