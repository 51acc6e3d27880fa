-- `search::extra::lists::bias_of` meets its contract.
use Rattle.cells.specs.Cell.{is_ref}
use Rattle.search.proofs.extra.lists.bias_of.Goals as goal

pub place-requires : goal.place-requires
unfolding is_ref
place-requires c = c.requires
