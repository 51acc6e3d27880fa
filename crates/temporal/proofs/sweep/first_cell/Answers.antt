-- `temporal::sweep::first_cell` meets its contract.
use Rattle.std.proofs.Common.{arith}
use Rattle.std.proofs.lemmas.Grind.{common_steps}
use Rattle.temporal.specs.Sweep.{cell_of}
use Rattle.temporal.proofs.sweep.first_cell.Goals as goal

pub returns-then-down : goal.returns-then-down
unfolding cell_of
returns-then-down c = grind (arith, common_steps)

pub returns-else-down : goal.returns-else-down
unfolding cell_of
returns-else-down c = grind (arith, common_steps)
