-- `jobs::job::share::saves_meet` meets its contract.
use Rattle.jobs.specs.job.Share.{saves_meet}
use Rattle.jobs.proofs.job.share.saves_meet.Goals as goal

pub returns-then-overlaps : goal.returns-then-overlaps
unfolding saves_meet
returns-then-overlaps c = rw (← c.overlaps.ensures, c.if-overlaps.true) c.overlaps-then-overlaps.ensures

pub returns-else-overlaps : goal.returns-else-overlaps
unfolding saves_meet
returns-else-overlaps c = rw (← c.overlaps.ensures, c.if-overlaps.false)
