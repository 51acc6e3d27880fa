-- `rows::setup::part_start` meets its contract.
use mathlib.Core.Path.{ap}
use native.Mathlib.Omega.{arith}
use Prim.Native.Nat.{◌*◌}
use Rattle.rows.specs.Setup.{part_start}
use Rattle.rows.proofs.Parts.{part_small, start_fits}
use Rattle.rows.proofs.setup.part_start.Goals as goal

pub overflow_mul-result : goal.overflow_mul-result
overflow_mul-result c = let s = c in let e = ap (λ x. x * s.args.s.stride.0) c.part.ensures in record { fits = omega (arith, part_small s.args.s s.args.tile s.requires.0 s.requires.1) }

pub overflow_mul-result-2 : goal.overflow_mul-result-2
overflow_mul-result-2 c = let s = c in let e = ap (λ x. x * s.args.s.stride.0) c.part.ensures in record { fits = omega (arith, part_small s.args.s s.args.tile s.requires.0 s.requires.1) }

pub overflow_add-result : goal.overflow_add-result
unfolding part_start
overflow_add-result c = let s = c in let e = ap (λ x. x * s.args.s.stride.0) c.part.ensures in record { fits = omega (arith, c.pass_start.ensures, start_fits s.args.s s.args.tile s.args.pass s.requires.0 s.requires.1) }

pub returns : goal.returns
unfolding part_start
returns c = rw (c.pass_start.ensures, c.part.ensures)
