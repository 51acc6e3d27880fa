-- `jobs::job::front::job_front` meets its contract.
use mathlib.Core.Path.{sym}
use borrow.Author.Tests.{lt-ltb, le-ltb}
use Rattle.jobs.specs.job.Job.{job_front}
use Rattle.jobs.proofs.job.front.job_front.Goals as goal
use Rattle.jobs.proofs.job.front.job_front.Goals.{then-not-well_formed-via-then-not-well_formed, then-not-well_formed-via-else-not-well_formed+then-not-well_formed-2}

pub returns-then-not-well_formed : goal.returns-then-not-well_formed
unfolding job_front
returns-then-not-well_formed c =
    elim c.then-not-well_formed.branch [
      | then-not-well_formed-via-then-not-well_formed w ↦ rw (← c.well_formed-2.ensures, w.if-not-well_formed.true)
      | then-not-well_formed-via-else-not-well_formed+then-not-well_formed-2 w ↦
          rw (← c.well_formed-2.ensures, w.if-not-well_formed.false, ← w.well_formed-else-not-well_formed.ensures, w.if-not-well_formed-2.true)
    ]

pub returns-then-not-well_formed-3 : goal.returns-then-not-well_formed-3
unfolding job_front
returns-then-not-well_formed-3 c = rw (sym (c.if-not-well_formed.ensures), sym (c.if-not-well_formed-2.ensures), sym (c.if-not-well_formed-3.ensures))

pub returns-then-count_of-job : goal.returns-then-count_of-job
unfolding job_front
returns-then-count_of-job c = rw (sym (c.if-not-well_formed.ensures), sym (c.if-not-well_formed-2.ensures), sym (c.if-not-well_formed-3.ensures), ← c.count_of.ensures, lt-ltb _ _ c.if-count_of-job.true)

pub returns : goal.returns
unfolding job_front
returns c = rw (sym (c.if-not-well_formed.ensures), sym (c.if-not-well_formed-2.ensures), sym (c.if-not-well_formed-3.ensures), ← c.count_of.ensures, le-ltb _ _ c.if-count_of-job.false) c.own_front.ensures
