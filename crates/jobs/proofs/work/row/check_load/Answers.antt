-- `jobs::work::row::check_load` meets its contract.
use Rattle.frame.proofs.Records.{frame-sizes}
use Rattle.motion.specs.saving.Area.{window_of}
use Rattle.motion.proofs.loading.Steps.{readable}
use Rattle.jobs.proofs.work.row.check_load.Goals as goal

pub window_in-window-requires : goal.window_in-window-requires
window_in-window-requires c = let p = c.requires.loads in (frame-sizes _ p.frame, p.area)

pub check_step-requires : goal.check_step-requires
check_step-requires c =
    let p = c.requires in
    rw c.window_in-window.ensures (readable _ _ _ _ p.loads.fields p.k_bound)

pub returns : goal.returns
unfolding window_of
returns c = rw (c.check_step.ensures, c.window_in-window.ensures)
