-- `jobs::work::row::do_load` meets its contract.
use Rattle.frame.proofs.Records.{frame-sizes}
use Rattle.motion.specs.saving.Area.{window_of}
use Rattle.jobs.proofs.work.row.do_load.Goals as goal

pub window_in-requires : goal.window_in-requires
window_in-requires c = let p = c.requires.loads in (frame-sizes _ p.frame, p.area)

pub load_step-requires : goal.load_step-requires
unfolding window_of
load_step-requires c =
    let p = c.requires in
    rw (c.window_in.ensures, c.uses_of.ensures) (record { fields = p.loads.fields; k_bound = (p.k_bound, p.a_in_bounds); k_value = p.k_value })

pub returns : goal.returns
unfolding window_of
returns c = rw (c.load_step.ensures, c.window_in.ensures, c.uses_of.ensures)
