-- `stack::numbers::pair_bits` meets its contract.
use Rattle.std.proofs.Common.{◌+◌, ◌*◌, ap₂, rules}
use Rattle.stack.specs.Code.Numbers.{pair_bits}
use Rattle.stack.proofs.Helds.{FitsPair, holds}
use Rattle.stack.proofs.numbers.pair_bits.Goals as goal

pub returns-clause-bits : goal.returns-clause-bits
unfolding pair_bits
returns-clause-bits c = ap₂ (λ a b. a + 4294967296 * b) c.bits.ensures c.bits-2.ensures

pub returns-clause-back : goal.returns-clause-back
unfolding pair_bits
returns-clause-back c =
    let f : FitsPair c.args.p = record { first = record { y = search rules; x = search rules }; second = record { y = search rules; x = search rules } } in
    holds c.args.p f (ap₂ (λ a b. a + 4294967296 * b) c.bits.ensures c.bits-2.ensures)
