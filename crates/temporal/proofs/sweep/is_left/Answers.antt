-- `temporal::sweep::is_left` meets its contract.
use Rattle.std.proofs.Common.{arith}
use Rattle.std.proofs.lemmas.Grind.{common_steps}
use Rattle.temporal.specs.Sweep.{leftward, cell_of}
use Rattle.temporal.proofs.sweep.is_left.Goals as goal

pub returns-then-halved-x : goal.returns-then-halved-x
unfolding leftward cell_of
returns-then-halved-x c = grind (arith, common_steps)

pub returns-else-halved-x : goal.returns-else-halved-x
unfolding leftward cell_of
returns-else-halved-x c = grind (arith, common_steps)
