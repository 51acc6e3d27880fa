-- `temporal::sweep::cells_along` meets its contract.
use Rattle.temporal.proofs.Sweeps.{cells-are}
use Rattle.temporal.proofs.sweep.cells_along.Goals as goal

pub returns : goal.returns
returns c =
    rw (c.div_ceil.ensures, c.halved_up.ensures) (cells-are c.args.limit.0 c.args.step.0 c.requires.0 c.requires.1 c.requires.2)
