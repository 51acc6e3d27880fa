-- `frame::mfmv::Mfmv::well_formed` meets its contract.
use Rattle.frame.specs.Mfmv.{well_mfmv}
use Rattle.std.proofs.Common.{rules}
use Rattle.frame.proofs.mfmv.Mfmv.well_formed.Goals as goal

pub returns-then-well_cur : goal.returns-then-well_cur
unfolding well_mfmv
returns-then-well_cur c = search rules

pub returns-else-well_cur : goal.returns-else-well_cur
unfolding well_mfmv
returns-else-well_cur c = search rules
