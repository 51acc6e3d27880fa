-- `temporal::aim::cell_at` meets its contract.
use Rattle.std.proofs.Common.{arith}
use Rattle.std.proofs.lemmas.Grind.{common_steps}
use Rattle.temporal.specs.Temporal.{cell_read}
use Rattle.temporal.proofs.aim.cell_at.Goals as goal

pub returns-then-total-i : goal.returns-then-total-i
unfolding cell_read
returns-then-total-i c = grind (arith, common_steps)

pub returns-then-not-well_projected : goal.returns-then-not-well_projected
unfolding cell_read
returns-then-not-well_projected c = grind (arith, common_steps)

pub returns-then-projected_absent : goal.returns-then-projected_absent
unfolding cell_read
returns-then-projected_absent c = grind (arith, common_steps)

pub returns : goal.returns
unfolding cell_read
returns c = grind (arith, common_steps)
