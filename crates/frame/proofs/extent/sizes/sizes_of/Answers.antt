-- `frame::extent::sizes::sizes_of` meets its contract.
use native.Mathlib.Omega.{arith}
use mathlib.Core.Path.{ap₂}
use Prim.Native.Nat.{◌*◌}
use Rattle.frame.specs.extent.Sizes.{sizes_of}
use Rattle.frame.proofs.extent.Sizing.{limited, eighths-most, blocks-most}
use Rattle.frame.proofs.extent.sizes.sizes_of.Goals as goal

pub in_eighths-iw8-requires : goal.in_eighths-iw8-requires
in_eighths-iw8-requires c = (limited _ _ _ _ _ c.requires).width.fits

pub in_eighths-ih8-requires : goal.in_eighths-ih8-requires
in_eighths-ih8-requires c = (limited _ _ _ _ _ c.requires).height.fits

pub stride_of-stride-requires : goal.stride_of-stride-requires
stride_of-stride-requires c = (limited _ _ _ _ _ c.requires).width.fits

pub doubled-requires : goal.doubled-requires
doubled-requires c = let h = eighths-most _ (limited _ _ _ _ _ c.requires).width.fits in let e = c.in_eighths-iw8.ensures in omega arith

pub doubled-requires-2 : goal.doubled-requires-2
doubled-requires-2 c = let h = eighths-most _ (limited _ _ _ _ _ c.requires).height.fits in let e = c.in_eighths-ih8.ensures in omega arith

pub overflow_mul-result : goal.overflow_mul-result
overflow_mul-result c = let s = c in let l = limited _ _ _ _ _ s.requires in let h = blocks-most _ _ s.args.tiles l.width.fits l.rows in let e = ap₂ (λ x y. x * y) c.stride_of-stride.ensures c.parts_of.ensures in record { fits = omega arith }

pub returns : goal.returns
unfolding sizes_of
returns c = rw (← c.in_eighths-iw8.ensures, ← c.in_eighths-ih8.ensures, ← c.stride_of-stride.ensures, ← c.parts_of.ensures, c.doubled.ensures, c.doubled-2.ensures)
