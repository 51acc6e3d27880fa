-- `temporal::sweep::has_corners` meets its contract.
use Rattle.std.proofs.Common.{arith}
use Rattle.std.proofs.lemmas.Grind.{common_steps}
use Rattle.temporal.specs.Sweep.{has_corners}
use Rattle.temporal.proofs.sweep.has_corners.Goals as goal

pub returns-then-b-lt16 : goal.returns-then-b-lt16
unfolding has_corners
returns-then-b-lt16 c = grind (arith, common_steps)

pub returns-else-b-lt16 : goal.returns-else-b-lt16
unfolding has_corners
returns-else-b-lt16 c = grind (arith, common_steps)
