-- `jobs::job::record::are_kinds` meets its contract.
use borrow.Author.Rules.{rules}
use borrow.Author.Tests.{tests}
use Rattle.jobs.specs.job.Job.{no_job, well_kind}
use Rattle.jobs.proofs.Ranges.{slice-all}
use Rattle.jobs.proofs.job.record.are_kinds.Goals as goal

pub returns : goal.returns
returns c = slice-all c.args.batch.n c.args.batch.jobs no_job well_kind (search rules) c.iter.ensures.rest c.all.ensures.ran (λ x q k. search (rules, tests)) (λ x q k. search (rules, tests))
