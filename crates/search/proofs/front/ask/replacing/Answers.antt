-- `search::front::ask::replacing` meets its contract.
use Rattle.std.proofs.Common.{rules, tests}
use Rattle.search.specs.front.Ask.{replacing_of}
use Rattle.search.proofs.front.ask.replacing.Goals as goal

pub returns-then-above-eq1 : goal.returns-then-above-eq1
unfolding replacing_of
returns-then-above-eq1 c = search (rules, tests)

pub returns-else-is_ref : goal.returns-else-is_ref
unfolding replacing_of
returns-else-is_ref c = search (rules, tests)
