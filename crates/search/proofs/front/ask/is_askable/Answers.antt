-- `search::front::ask::is_askable` meets its contract.
use Rattle.std.proofs.Common.{rules, tests}
use Rattle.search.specs.front.Ask.{askable}
use Rattle.search.proofs.front.ask.is_askable.Goals as goal

pub returns-then-are_paired : goal.returns-then-are_paired
unfolding askable
returns-then-are_paired c = search (rules, tests)

pub returns-else-are_paired : goal.returns-else-are_paired
unfolding askable
returns-else-are_paired c = search (rules, tests)
