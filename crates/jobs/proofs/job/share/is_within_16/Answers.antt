-- `jobs::job::share::is_within_16` meets its contract.
use mathlib.Core.Path.{refl}
use Rattle.jobs.specs.job.Share.{within16}
use Rattle.jobs.proofs.job.share.is_within_16.Goals as goal

pub returns : goal.returns
unfolding within16
returns c = refl
