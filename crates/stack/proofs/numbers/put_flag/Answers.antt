-- `stack::numbers::put_flag` meets its contract.
use Rattle.stack.proofs.Helds.{flag-laid}
use Rattle.stack.proofs.numbers.put_flag.Goals as goal

pub returns : goal.returns
returns c = let s = c in rw c.place_of.ensures.0 (flag-laid s.args.s.now s.args.f s.requires)
