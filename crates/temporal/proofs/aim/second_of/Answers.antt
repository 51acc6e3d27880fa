-- `temporal::aim::second_of` meets its contract.
use Rattle.std.proofs.Common.{arith}
use Rattle.std.proofs.lemmas.Grind.{common_steps}
use Rattle.temporal.specs.Temporal.{pair_of}
use Rattle.temporal.proofs.aim.second_of.Goals as goal

pub returns-then-a : goal.returns-then-a
unfolding pair_of
returns-then-a c = grind (arith, common_steps)

pub returns-else-a : goal.returns-else-a
unfolding pair_of
returns-else-a c = grind (arith, common_steps)
