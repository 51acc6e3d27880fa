-- `frame::extent::sizes::Sizes::projected_cells` meets its contract.
use mathlib.Core.Path.{refl}
use native.Mathlib.Omega.{arith}
use Rattle.frame.specs.extent.Sizes.{projected_cells}
use Rattle.frame.proofs.extent.Sizing.{fits, blocks-most}
use Rattle.frame.proofs.extent.sizes.Sizes.projected_cells.Goals as goal

pub overflow_mul-result : goal.overflow_mul-result
overflow_mul-result c = let f = fits _ c.requires in let b = blocks-most _ _ c.args.self.n_tile_threads f.limits.width.fits f.limits.rows in record { fits = omega (arith, f.blocks) }

pub returns : goal.returns
unfolding projected_cells
returns c = refl
