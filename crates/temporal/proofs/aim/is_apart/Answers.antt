-- `temporal::aim::is_apart` meets its contract.
use Rattle.std.proofs.Common.{arith}
use Rattle.std.proofs.lemmas.Grind.{common_steps}
use Rattle.temporal.specs.Temporal.{apart}
use Rattle.temporal.proofs.aim.is_apart.Goals as goal

pub returns : goal.returns
unfolding apart
returns c = grind (arith, common_steps)
