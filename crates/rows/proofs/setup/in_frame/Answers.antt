-- `rows::setup::in_frame_lem` meets its contract.
use Rattle.rows.specs.Setup.{in_frame}
use Rattle.rows.proofs.setup.in_frame.Goals as goal

pub returns : goal.returns
unfolding in_frame
returns c = rw c.part.ensures
