-- `jobs::job::job_bytes::job_at` meets its contract.
use Rattle.jobs.specs.job.Bytes.{job_held}
use Rattle.jobs.proofs.job.job_bytes.job_at.Goals as goal

pub returns : goal.returns
unfolding job_held
returns c = (cc)
