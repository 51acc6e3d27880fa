-- `jobs::job::share::do_meet` meets its contract.
use mathlib.Core.Path.{sym}
use Rattle.frame.proofs.Records.{frame-sizes}
use Rattle.jobs.specs.job.Share.{meets}
use Rattle.jobs.proofs.job.Fronts.{window-low}
use Rattle.jobs.proofs.job.share.do_meet.Goals as goal

pub window_in-requires : goal.window_in-requires
window_in-requires c = let p = c.requires in (frame-sizes _ p.0, p.1)

pub window_in-requires-in-true-true : goal.window_in-requires-in-true-true
window_in-requires-in-true-true c = let p = c.requires in (frame-sizes _ p.0, p.2)

pub loads_meet-requires : goal.loads_meet-requires
loads_meet-requires c = let p = c.requires in (window-low _ _ c.window_in.ensures p.0 p.1, window-low _ _ c.window_in-in-true-true.ensures p.0 p.2)

pub returns-in-true-true : goal.returns-in-true-true
unfolding meets
returns-in-true-true c = rw (sym (c.in-true-true.ensures), sym (c.in-true-true.ensures'), c.loads_meet.ensures, c.window_in.ensures, c.window_in-in-true-true.ensures)

pub returns-in-false-false : goal.returns-in-false-false
unfolding meets
returns-in-false-false c = rw (sym (c.in-false-false.ensures), sym (c.in-false-false.ensures'), c.saves_meet.ensures, c.strip_in.ensures, c.strip_in-in-false-false.ensures)

pub returns-in_default : goal.returns-in_default
unfolding meets
returns-in_default c = rw (sym (c.in_default.ensures), sym (c.in_default.ensures'))

pub returns-in_default-2 : goal.returns-in_default-2
unfolding meets
returns-in_default-2 c = rw (sym (c.in_default.ensures), sym (c.in_default.ensures'))
