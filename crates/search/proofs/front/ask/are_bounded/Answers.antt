-- `search::front::ask::are_bounded` meets its contract.
use Rattle.std.proofs.Common.{rules, tests}
use Rattle.search.specs.front.Ask.{bounded_refs}
use Rattle.search.proofs.front.ask.are_bounded.Goals as goal

pub returns-then-is_bounded : goal.returns-then-is_bounded
unfolding bounded_refs
returns-then-is_bounded c = search (rules, tests)

pub returns-else-is_bounded : goal.returns-else-is_bounded
unfolding bounded_refs
returns-else-is_bounded c = search (rules, tests)
