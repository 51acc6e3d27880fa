-- `frame::extent::sizes::Sizes::saved_cells` meets its contract.
use native.Mathlib.Omega.{arith}
use mathlib.Core.Path.{refl}
use Rattle.frame.specs.extent.Sizes.{saved_cells}
use Rattle.frame.proofs.extent.Sizing.{fits, saved-most}
use Rattle.frame.proofs.extent.sizes.Sizes.saved_cells.Goals as goal

pub overflow_mul-result : goal.overflow_mul-result
overflow_mul-result c = let f = fits _ c.requires in let m = saved-most c.args.self f in record { fits = omega arith }

pub returns : goal.returns
unfolding saved_cells
returns c = refl
