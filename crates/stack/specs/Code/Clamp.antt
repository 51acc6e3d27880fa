-- These definitions follow the code: a reach as bounds of components of 16 bits.
use Rattle.std.specs.Prelude.{ℕ, min, ℤ, pos, neg_ℤ, ◌≤ℤ◌}
use Rattle.ground.specs.Sign.{clip3}
use Rattle.vector.specs.declared.mv.Mv.{Mv}
use Rattle.cells.specs.Block.{MvPair}
use Rattle.stack.specs.declared.clamp.Reach.{Reach}
use Rattle.stack.specs.declared.clamp.Bounds.{Bounds}

abbrev pub lowest : ℕ → ℤ
lowest n = neg_ℤ (pos (min n 32768))

abbrev pub highest : ℕ → ℤ
highest n = pos (min n 32767)

abbrev pub bounds_of : Reach → Bounds
bounds_of r = record { up = lowest r.up; down = highest r.down; left = lowest r.left; right = highest r.right }

-- the least is at most the most, on each axis
pub record Ordered (b : Bounds) : Type 0 where
  pub y : b.up ≤ℤ b.down
  pub x : b.left ≤ℤ b.right

unfoldable pub clipped_mv : Bounds → Mv → Mv
clipped_mv b v = record { y = clip3 b.up b.down v.y; x = clip3 b.left b.right v.x }

abbrev pub clipped_pair : Bounds → MvPair → MvPair
clipped_pair b p = record { first = clipped_mv b p.first; second = clipped_mv b p.second }
