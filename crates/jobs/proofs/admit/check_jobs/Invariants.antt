-- `jobs::admit::check_jobs` meets its contract.
use mathlib.Core.Path.{◌≡◌}
use Rattle.ground.specs.Span.{first_of}
use Rattle.jobs.specs.job.Job.{job_at}
use Rattle.jobs.specs.Admit.{job_answer}
use Rattle.jobs.specs.Inputs.{handed_with}
use Rattle.jobs.proofs.admit.check_jobs.Given as goal

abbrev pub invariant-loop-i : goal.invariant-loop-i
invariant-loop-i l = first_of (λ k. job_answer (handed_with l.inputs l.proj l.saved) (job_at l.batch k)) l.i l.batch.n ≡ first_of (λ k. job_answer (handed_with l.inputs l.proj l.saved) (job_at l.batch k)) 0 l.batch.n
