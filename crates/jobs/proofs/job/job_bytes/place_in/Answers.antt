-- `jobs::job::job_bytes::place_in` meets its contract.
use mathlib.Core.Path.{sym, ◌∙◌}
use borrow.Author.Tests.{lt-ltb, le-ltb}
use Rattle.ground.proofs.Picks.{pick_true, pick-false}
use Rattle.jobs.specs.job.Bytes.{place_in}
use Rattle.jobs.proofs.job.job_bytes.place_in.Goals as goal

pub returns-then-i-s : goal.returns-then-i-s
unfolding place_in
returns-then-i-s c = c.job_in.ensures ∙ sym (pick_true _ (lt-ltb _ _ c.if-i-s.true))

pub returns-else-i-s : goal.returns-else-i-s
unfolding place_in
returns-else-i-s c = c.no_job.ensures ∙ sym (pick-false _ (le-ltb _ _ c.if-i-s.false))
