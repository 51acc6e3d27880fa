-- `stack::numbers::candidate_in` meets its contract.
use Rattle.stack.specs.Code.Numbers.{cand_at}
use Rattle.stack.proofs.numbers.candidate_in.Goals as goal

pub returns : goal.returns
unfolding cand_at
returns c = rw c.pair_in-mv.ensures
