-- `temporal::sweep::stride_along` meets its contract.
use Rattle.std.proofs.Common.{arith}
use Rattle.std.proofs.lemmas.Grind.{common_steps}
use Rattle.temporal.specs.Sweep.{stride_along}
use Rattle.temporal.proofs.sweep.stride_along.Goals as goal

pub returns-then-side-lt16 : goal.returns-then-side-lt16
unfolding stride_along
returns-then-side-lt16 c = grind (arith, common_steps)

pub returns-else-side-lt16 : goal.returns-else-side-lt16
unfolding stride_along
returns-else-side-lt16 c = grind (arith, common_steps)
