-- `capture::player::open::batch_in` meets its contract.
use mathlib.Core.Path.{ap, ◌∙◌}
use Rattle.jobs.specs.job.Bytes.{capture_job, batch_of}
use Rattle.capture.proofs.player.open.batch_in.Goals as goal

pub returns : goal.returns
returns c = c.batch_of.ensures ∙ ap (batch_of capture_job) c.body.ensures
