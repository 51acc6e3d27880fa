-- `jobs::job::share::loads_meet` meets its contract.
use mathlib.Core.Bool.{true≢false}
use mathlib.Core.Path.{sym, ◌∙◌}
use borrow.Author.Tests.{eq-eqb, ne_eqb}
use Rattle.jobs.specs.job.Share.{loads_meet}
use Rattle.jobs.proofs.job.share.loads_meet.Goals as goal
use Rattle.jobs.proofs.job.share.loads_meet.Goals.{then-w-v, else-w-v}

pub returns-then-overlaps_16 : goal.returns-then-overlaps_16
unfolding loads_meet
returns-then-overlaps_16 c =
    elim c.if-w-v.branch [
      | then-w-v w ↦ rw (eq-eqb _ _ w.if-w-v.true, ← w.overlaps_16.ensures, ← w.value-is, c.if-overlaps_16.true) c.overlaps.ensures
      | else-w-v w ↦ absurd (true≢false (sym c.if-overlaps_16.true ∙ w.value-is ∙ ne_eqb _ _ w.if-w-v.false))
    ]

pub returns-else-overlaps_16 : goal.returns-else-overlaps_16
unfolding loads_meet
returns-else-overlaps_16 c =
    elim c.if-w-v.branch [
      | then-w-v w ↦ rw (eq-eqb _ _ w.if-w-v.true, ← w.overlaps_16.ensures, ← w.value-is, c.if-overlaps_16.false)
      | else-w-v w ↦ rw (ne_eqb _ _ w.if-w-v.false, c.if-overlaps_16.false)
    ]
