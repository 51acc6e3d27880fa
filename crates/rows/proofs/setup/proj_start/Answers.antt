-- `rows::setup::proj_start` meets its contract.
use mathlib.Core.Path.{ap}
use native.Mathlib.Omega.{arith}
use Prim.Native.Nat.{◌*◌}
use Rattle.rows.proofs.Parts.{part_small}
use Rattle.rows.proofs.setup.proj_start.Goals as goal

pub overflow_mul-result : goal.overflow_mul-result
overflow_mul-result c = let s = c in let e = ap (λ x. x * s.args.s.stride.0) c.part.ensures in record { fits = omega (arith, part_small s.args.s s.args.tile s.requires.0 s.requires.1) }

pub overflow_mul-result-2 : goal.overflow_mul-result-2
overflow_mul-result-2 c = let s = c in let e = ap (λ x. x * s.args.s.stride.0) c.part.ensures in record { fits = omega (arith, part_small s.args.s s.args.tile s.requires.0 s.requires.1) }
