-- `search::front::ask::are_paired` meets its contract.
use Rattle.std.proofs.Common.{rules, tests}
use lib.IntN.{pos, negsuc}
use Rattle.ground.proofs.Bits.{int_eq-is}
use Rattle.search.specs.front.Ask.{paired}
use Rattle.search.proofs.front.ask.are_paired.Goals as goal

pub returns-then-is_ref-2 : goal.returns-then-is_ref-2
unfolding paired
returns-then-is_ref-2 c = rw (← int_eq-is c.args.refs.second.0 (negsuc 0), ← int_eq-is c.args.refs.first.0 (pos 0)) (search (rules, tests))

pub returns-else-is_ref-2 : goal.returns-else-is_ref-2
unfolding paired
returns-else-is_ref-2 c = rw (← int_eq-is c.args.refs.second.0 (negsuc 0), ← int_eq-is c.args.refs.first.0 (pos 0)) (search (rules, tests))

pub returns-then-eq-2 : goal.returns-then-eq-2
unfolding paired
returns-then-eq-2 c = rw (← int_eq-is c.args.refs.second.0 (negsuc 0), ← int_eq-is c.args.refs.first.0 (pos 0)) (search (rules, tests))

pub returns-else-eq-2 : goal.returns-else-eq-2
unfolding paired
returns-else-eq-2 c = rw (← int_eq-is c.args.refs.second.0 (negsuc 0), ← int_eq-is c.args.refs.first.0 (pos 0)) (search (rules, tests))
