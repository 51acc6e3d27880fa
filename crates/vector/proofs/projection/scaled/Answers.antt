-- `vector::projection::scaled` meets its contract.
use mathlib.Core.Path.{sym}
use Rattle.ground.specs.Sign.{round2}
use Rattle.vector.proofs.projection.scaled.Goals as goal

pub returns : goal.returns
unfolding round2
returns c = rw (sym c.div_mult.ensures) c.min.ensures
