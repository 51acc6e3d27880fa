-- `stack::numbers::put_candidate` meets its contract.
use Rattle.stack.proofs.Carries.{candidate-laid}
use Rattle.stack.proofs.numbers.put_candidate.Goals as goal

pub returns : goal.returns
returns c = candidate-laid c.args.s.now c.args.i c.args.k c.args.w c.requires.0 c.requires.1
