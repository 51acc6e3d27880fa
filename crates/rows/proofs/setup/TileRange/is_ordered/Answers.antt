-- `rows::setup::TileRange::is_ordered` meets its contract.
use mathlib.Core.Path.{refl}
use Rattle.rows.specs.Setup.{ordered}
use Rattle.rows.proofs.setup.TileRange.is_ordered.Goals as goal

pub returns : goal.returns
unfolding ordered
returns c = refl
