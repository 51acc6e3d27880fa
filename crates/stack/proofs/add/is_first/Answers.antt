-- `stack::add::is_first` meets its contract.
use Rattle.std.proofs.Common.{rules}
use Rattle.stack.proofs.Adds.{test-is}
use Rattle.stack.proofs.add.is_first.Goals as goal

pub returns : goal.returns
returns c =
    rw (← c.pair_bits.ensures.back) (test-is c.args.s.now c.requires.0 c.pair_bits.result (λ i. (c.type_inv.s i).fits) (search rules) 0 c.requires.1)
