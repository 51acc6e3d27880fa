-- `frame::extent::sizes::Sizes::records` meets its contract.
use mathlib.Core.Path.{ap}
use Prim.Native.Nat.{◌*◌}
use native.Mathlib.Omega.{arith}
use Rattle.frame.proofs.extent.Sizing.{fits, blocks-most, records-most}
use Rattle.frame.specs.extent.Sizes.{records}
use Rattle.frame.proofs.extent.sizes.Sizes.records.Goals as goal

pub overflow_mul-result : goal.overflow_mul-result
overflow_mul-result c = let f = fits _ c.requires in let h = blocks-most _ _ c.args.self.n_tile_threads f.limits.width.fits f.limits.rows in record { fits = omega (arith, f.blocks) }

pub overflow_mul-result-2 : goal.overflow_mul-result-2
overflow_mul-result-2 c = let h = records-most _ (fits _ c.requires) in let e = ap (λ x. 70 * c.args.self.n_blocks * x) c.passes.ensures in record { fits = omega arith }

pub overflow_add-result : goal.overflow_add-result
overflow_add-result c = let h = records-most _ (fits _ c.requires) in let e = ap (λ x. 70 * c.args.self.n_blocks * x) c.passes.ensures in record { fits = omega arith }

pub returns : goal.returns
unfolding records
returns c = rw c.passes.ensures
