-- `temporal::sweep::end_cell` meets its contract.
use Rattle.std.proofs.Common.{arith}
use Rattle.std.proofs.lemmas.Grind.{common_steps}
use Rattle.temporal.specs.Sweep.{end_of}
use Rattle.temporal.proofs.Sweeps.{cell-most}
use Rattle.temporal.proofs.sweep.end_cell.Goals as goal

pub overflow_add-group : goal.overflow_add-group
overflow_add-group c = let k = cell-most c.args.down c.args.b c.requires in record { fits = omega (arith, c.first_cell.ensures) }

pub returns : goal.returns
unfolding end_of
returns c = grind (arith, common_steps)
