-- `rows::setup::TileRange::cut_to` meets its contract.
use Rattle.rows.specs.Setup.{cut_to}
use Rattle.std.proofs.Common.{rules}
use Rattle.rows.proofs.setup.TileRange.cut_to.Goals as goal

pub returns : goal.returns
unfolding cut_to
returns c = search rules
