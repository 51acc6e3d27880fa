-- `stack::add::lay` meets its contract.
use Rattle.std.proofs.Common.{arith}
use Rattle.stack.proofs.Adds.{counts}
use Rattle.stack.proofs.add.lay.Goals as goal

pub returns : goal.returns
returns c = counts c.args.s.now c.requires.0 _ c.put_candidate.new.s c.count_in-n.result c.count_in-n.ensures (omega arith) c.put_candidate.ensures.0 c.put_candidate.ensures.1
