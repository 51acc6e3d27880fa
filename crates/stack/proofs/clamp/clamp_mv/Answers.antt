-- `stack::clamp::clamp_mv` meets its contract.
use Rattle.std.proofs.Common.{arith}
use Rattle.std.proofs.lemmas.Int.{to_z-of_z}
use Rattle.stack.proofs.Clips.{clamped-mv}
use Rattle.stack.proofs.clamp.clamp_mv.Goals as goal

pub returns : goal.returns
returns c = grind (arith, to_z-of_z, clamped-mv)
