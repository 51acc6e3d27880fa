-- `jaskkovir::captures::put_steps` meets its contract.
use Rattle.std.proofs.Common.{ℕ, ap, ◌∙◌, rules}
use Rattle.ground.specs.Little.{fours}
use Rattle.ground.specs.Put.{put}
use Rattle.jobs.specs.job.Job.{job_at}
use Rattle.jaskkovir.specs.Captured.{steps_of}
use Rattle.jaskkovir.proofs.Shown.{tab-is}
use Rattle.jaskkovir.proofs.captures.put_steps.Goals as goal

pub returns : goal.returns
unfolding steps_of
returns c =
    let f : ℕ → ℕ = λ i. (job_at c.args.batch i).done in
    let r = c.from_fn-numbers.ensures.items in
    let e = tab-is 0 f 8 c.from_fn-numbers.result r.long (λ k l. let w = r.at k 0 l in search rules) in
    c.put_sizes.ensures ∙ ap (λ ns. put c.args.s.now 0 (fours ns)) e
