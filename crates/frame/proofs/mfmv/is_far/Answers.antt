-- `frame::mfmv::is_far` meets its contract.
use mir.Facts.{to_z-of_z}
use Rattle.frame.specs.Mfmv.{far}
use Rattle.frame.proofs.mfmv.is_far.Goals as goal

pub returns : goal.returns
unfolding far
returns c = rw (c.magnitude.ensures, to_z-of_z c.ranges.z)
