-- `motion::saving::area::Area::window_in` meets its contract.
use mathlib.Core.Path.{ap}
use native.Mathlib.Omega.{arith}
use Prim.Native.Nat.{◌*◌}
use Rattle.frame.specs.extent.Sizes.{projected_cells}
use Rattle.frame.proofs.extent.Sizing.{fits}
use Rattle.rows.proofs.Parts.{blocks-fit}
use Rattle.motion.specs.saving.Area.{window_of}
use Rattle.motion.proofs.saving.Areas.{part-fits}
use Rattle.motion.proofs.saving.area.Area.window_in.Goals as goal

pub overflow_mul-result : goal.overflow_mul-result
unfolding projected_cells
overflow_mul-result c = let s = c in let p = part-fits s.args.s s.args.self s.requires.0 s.requires.1 in let k = blocks-fit s.args.s (fits s.args.s s.requires.0) in let e = ap (λ x. x * s.args.s.stride.0) c.part.ensures in record { fits = omega arith }

pub overflow_mul-result-2 : goal.overflow_mul-result-2
unfolding projected_cells
overflow_mul-result-2 c = let s = c in let p = part-fits s.args.s s.args.self s.requires.0 s.requires.1 in let k = blocks-fit s.args.s (fits s.args.s s.requires.0) in let e = ap (λ x. x * s.args.s.stride.0) c.part.ensures in record { fits = omega arith }

pub returns : goal.returns
unfolding window_of
returns c = rw (← c.bottom_in.ensures, c.part.ensures)
