-- `stack::numbers::clear` meets its contract.
use Rattle.stack.proofs.Helds.{cleared}
use Rattle.stack.proofs.numbers.clear.Goals as goal

pub returns : goal.returns
returns c = cleared c.args.s.now c.requires
