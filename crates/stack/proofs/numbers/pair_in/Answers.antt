-- `stack::numbers::pair_in` meets its contract.
use Rattle.stack.specs.Code.Numbers.{pair_in}
use Rattle.stack.proofs.numbers.pair_in.Goals as goal

pub returns : goal.returns
unfolding pair_in
returns c = rw (← c.of_bits-first.ensures, ← c.of_bits-second.ensures)
