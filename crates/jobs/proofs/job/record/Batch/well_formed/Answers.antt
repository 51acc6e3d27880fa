-- `jobs::job::record::Batch::well_formed` meets its contract.
use mathlib.Core.Path.{sym, ◌∙◌}
use Rattle.ground.proofs.Picks.{and-on, and-off}
use Rattle.jobs.specs.job.Job.{well_batch}
use Rattle.jobs.proofs.job.Batches.{one-to-eight}
use Rattle.jobs.proofs.job.record.Batch.well_formed.Goals as goal

pub are_kinds-requires : goal.are_kinds-requires
are_kinds-requires c = (one-to-eight c.args.self.n (sym c.one_to.ensures ∙ c.if-one_to.true)).1

pub returns-then-one_to : goal.returns-then-one_to
unfolding well_batch
returns-then-one_to c = c.are_kinds.ensures ∙ sym (and-on (sym c.one_to.ensures ∙ c.if-one_to.true))

pub returns-else-one_to : goal.returns-else-one_to
unfolding well_batch
returns-else-one_to c = c.if-one_to.false ∙ sym (and-off _ (sym c.one_to.ensures ∙ c.if-one_to.false))
