-- `frame::mfmv::well_cur` meets its contract.
use Rattle.frame.specs.Mfmv.{well_cur}
use Rattle.std.proofs.Common.{rules}
use Rattle.frame.proofs.mfmv.well_cur.Goals as goal

pub returns : goal.returns
unfolding well_cur
returns c = search rules
