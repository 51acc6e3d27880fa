-- `temporal::aim::is_far` meets its contract.
use Rattle.std.proofs.Common.{arith}
use Rattle.std.proofs.lemmas.Grind.{common_steps}
use Rattle.temporal.specs.Temporal.{far_of}
use Rattle.temporal.proofs.aim.is_far.Goals as goal

pub returns-then-is_apart : goal.returns-then-is_apart
unfolding far_of
returns-then-is_apart c = grind (arith, common_steps)

pub returns-else-is_apart : goal.returns-else-is_apart
unfolding far_of
returns-else-is_apart c = grind (arith, common_steps)
