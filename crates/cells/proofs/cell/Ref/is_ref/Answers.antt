-- `cells::cell::Ref::is_ref` meets its contract.
use Rattle.cells.specs.Cell.{is_ref}
use Rattle.cells.proofs.cell.Ref.is_ref.Goals as goal

pub returns : goal.returns
unfolding is_ref
returns c = c.from_to.ensures
