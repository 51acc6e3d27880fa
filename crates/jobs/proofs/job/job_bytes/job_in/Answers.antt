-- `jobs::job::job_bytes::job_in` meets its contract.
use mathlib.Core.Path.{ap, ◌∙◌}
use Rattle.jobs.specs.job.Bytes.{job_held}
use Rattle.jobs.proofs.job.job_bytes.job_in.Goals as goal

pub returns : goal.returns
returns c = c.job_at.ensures ∙ ap (job_held _ _) c.done_at.ensures
