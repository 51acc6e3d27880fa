-- `jobs::job::share::overlaps` meets its contract.
use Rattle.jobs.proofs.job.Shared.{overlap-between}
use Rattle.jobs.proofs.job.share.overlaps.Goals as goal

pub returns : goal.returns
returns c = rw (c.max.ensures, c.min.ensures) (overlap-between c.args.a c.args.e c.args.b c.args.f)
