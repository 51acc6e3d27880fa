-- `rows::splats::splat::first_entry` meets its contract.
use mathlib.Core.Path.{refl}
use Rattle.rows.specs.splats.Splat.{first_entry}
use Rattle.rows.proofs.splats.splat.first_entry.Goals as goal

pub returns : goal.returns
unfolding first_entry
returns c = refl
