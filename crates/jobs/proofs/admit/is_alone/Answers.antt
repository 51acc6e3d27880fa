-- `jobs::admit::is_alone` meets its contract.
use mathlib.Core.Bool.{not}
use Rattle.std.proofs.Common.{rules}
use borrow.Author.Tests.{tests}
use Rattle.jobs.specs.job.Job.{job_at}
use Rattle.jobs.specs.job.Share.{meets}
use Rattle.jobs.specs.Admit.{alone_at}
use Rattle.jobs.proofs.Ranges.{range-all}
use Rattle.jobs.proofs.admit.is_alone.Goals as goal

pub returns : goal.returns
unfolding alone_at
returns c =
    let s = c.args in
    range-all s.j (λ i. not (meets s.f (job_at s.batch i) (job_at s.batch s.j))) c.all.ensures.ran (λ x q k. search (rules, tests)) (λ x q k. search (rules, tests))
