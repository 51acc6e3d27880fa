-- `search::front::context::new_context` meets its contract.
use Rattle.std.proofs.Common.{rules, tests}
use Rattle.search.specs.front.Context.{new_context}
use Rattle.search.proofs.front.context.new_context.Goals as goal

pub returns-in-0 : goal.returns-in-0
unfolding new_context
returns-in-0 c = search (rules, tests)

pub returns-in-1 : goal.returns-in-1
unfolding new_context
returns-in-1 c = search (rules, tests)

pub returns-in_default : goal.returns-in_default
unfolding new_context
returns-in_default c = search (rules, tests)
