-- `jobs::job::job_bytes::batch_of` meets its contract.
use mathlib.Core.List.{List}
use mathlib.Core.Path.{ap}
use Prim.Native.Nat.{◌/◌}
use lib.ListN.{length}
use borrow.Author.Rules.{rules}
use Rattle.jobs.specs.declared.job.record.Batch.{Batch}
use Rattle.jobs.specs.declared.job.record.Job.{Job}
use Rattle.jobs.specs.job.Job.{no_job}
use Rattle.jobs.specs.job.Bytes.{place_in, batch_of}
use Rattle.jobs.proofs.Ranges.{from-fn}
use Rattle.jobs.proofs.job.job_bytes.batch_of.Goals as goal

pub returns : goal.returns
unfolding batch_of
returns c =
    let s = c.args in
    let jobs = from-fn c.from_fn.result no_job (place_in s.size s.s.now) 8 c.from_fn.ensures.items (λ j y q k. search rules) in
    ap (λ (js : List Job). let b : Batch = record { n = length s.s.now / s.size; jobs = js } in b) jobs
