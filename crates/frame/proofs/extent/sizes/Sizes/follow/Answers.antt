-- `frame::extent::sizes::Sizes::follow` meets its contract.
use native.Mathlib.Omega.{arith}
use mathlib.Core.Path.{ap₂}
use Prim.Native.Nat.{◌*◌}
use Rattle.frame.proofs.extent.Sizing.{eighths-most, blocks-most}
use Rattle.frame.proofs.extent.Sizing.{limited}
use Rattle.frame.specs.extent.Sizes.{follows}
use Rattle.std.proofs.Common.{rules}
use Rattle.frame.proofs.extent.sizes.Sizes.follow.Goals as goal

pub in_eighths-w-requires : goal.in_eighths-w-requires
in_eighths-w-requires c = (limited _ _ _ _ _ c.requires).width.fits

pub in_eighths-h-requires : goal.in_eighths-h-requires
in_eighths-h-requires c = (limited _ _ _ _ _ c.requires).height.fits

pub stride_of-stride-requires : goal.stride_of-stride-requires
stride_of-stride-requires c = (limited _ _ _ _ _ c.requires).width.fits

pub doubled-requires : goal.doubled-requires
doubled-requires c = let h = eighths-most _ (limited _ _ _ _ _ c.requires).width.fits in let e = c.in_eighths-w.ensures in omega arith

pub doubled-requires-then-self-doubled : goal.doubled-requires-then-self-doubled
doubled-requires-then-self-doubled c = let h = eighths-most _ (limited _ _ _ _ _ c.requires).height.fits in let e = c.in_eighths-h.ensures in omega arith

pub overflow_mul-result : goal.overflow_mul-result
overflow_mul-result c = let l = limited _ _ _ _ _ c.requires in let h = blocks-most _ _ c.args.self.n_tile_threads l.width.fits l.rows in let e = ap₂ (λ x y. x * y) c.stride_of-stride.ensures c.parts_of.ensures in record { fits = omega arith }

pub returns-then-self-stride : goal.returns-then-self-stride
unfolding follows
returns-then-self-stride c = search rules

pub returns-else-self-stride : goal.returns-else-self-stride
unfolding follows
returns-else-self-stride c = search rules
