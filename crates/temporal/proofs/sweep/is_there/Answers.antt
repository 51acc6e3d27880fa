-- `temporal::sweep::is_there` meets its contract.
use native.Mathlib.Omega.{arith}
use Rattle.temporal.specs.Sweep.{there}
use Rattle.temporal.proofs.Sweeps.{cell-most}
use Rattle.temporal.proofs.sweep.is_there.Goals as goal

pub overflow_add-result : goal.overflow_add-result
overflow_add-result c = let k = cell-most c.args.down c.args.b c.requires.0 in record { fits = omega (arith, c.first_cell.ensures) }

pub returns : goal.returns
unfolding there
returns c = rw (c.first_cell.ensures, c.end_cell.ensures)
