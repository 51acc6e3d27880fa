-- `jobs::job::record::Job::well_kind` meets its contract.
use borrow.Author.Tests.{le-leb, lt-leb}
use Rattle.jobs.specs.job.Job.{well_kind}
use Rattle.jobs.proofs.job.record.Job.well_kind.Goals as goal

pub returns-then-self-le1 : goal.returns-then-self-le1
unfolding well_kind
returns-then-self-le1 c = rw (le-leb _ _ c.if-self-le1.true) c.is_pass.ensures

pub returns-else-self-le1 : goal.returns-else-self-le1
unfolding well_kind
returns-else-self-le1 c = rw (lt-leb _ _ c.if-self-le1.false)
