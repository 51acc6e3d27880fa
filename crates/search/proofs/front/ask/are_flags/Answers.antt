-- `search::front::ask::are_flags` meets its contract.
use Rattle.std.proofs.Common.{rules, tests}
use Rattle.search.specs.front.Ask.{flagged}
use Rattle.search.proofs.front.ask.are_flags.Goals as goal

pub returns-then-a-le1-4 : goal.returns-then-a-le1-4
unfolding flagged
returns-then-a-le1-4 c = search (rules, tests)

pub returns-else-a-le1-4 : goal.returns-else-a-le1-4
unfolding flagged
returns-else-a-le1-4 c = search (rules, tests)
