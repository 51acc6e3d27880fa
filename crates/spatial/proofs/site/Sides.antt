-- What a block that lies in its tile tells of a side: its length, how far a search looks along it, and its lines of neighbours.
-- Assumes nothing.
use mathlib.Core.Bool.{Bool, true, false, not}
use Prim.Native.Nat.{ℕ, ◌+◌, ◌*◌, ◌≤◌}
use native.Mathlib.Omega.{arith}
use lib.Dec.{eqb}
use Rattle.ground.specs.Pick.{pick}
use Rattle.spatial.specs.declared.site.block.Site.{Site}
use Rattle.spatial.specs.site.Site.{side_of, rest_of, limit_of, behind_of, deepest, depth_of}
use Rattle.spatial.specs.Code.Site.{Placed}

pub side-some : (down : Bool) (s : Site) → Placed s → 1 ≤ side_of down s
unfolding side_of
side-some true s p = p.some.1
side-some false s p = p.some.0

pub side-most : (down : Bool) (s : Site) → Placed s → side_of down s ≤ 32
unfolding side_of
side-most true s p = p.most.1
side-most false s p = p.most.0

-- the block starts inside its tile
rest_some : (down : Bool) (s : Site) → Placed s → 1 ≤ rest_of down s
unfolding rest_of
rest_some true s p = omega (arith, p.above)
rest_some false s p = omega (arith, p.before)

pub limit-some : (down : Bool) (s : Site) → Placed s → 1 ≤ limit_of down s
unfolding limit_of
limit-some down s p = omega (arith, side-some down s p, rest_some down s p)

pub limit-most : (down : Bool) (s : Site) → limit_of down s ≤ 16
unfolding limit_of
limit-most down s = omega arith

deepest-most : (across : ℕ) → deepest across ≤ 3
unfolding deepest
deepest-most across = by (eqb across 1)
  where
    by : (b : Bool) → pick b 2 3 ≤ 3
    by true = omega arith
    by false = omega arith

pub depth-most : (down : Bool) (s : Site) → depth_of down s ≤ 3
unfolding depth_of
depth-most down s = omega (arith, deepest-most (side_of (not down) s))

-- the farthest line lies inside the tile, and so do those before it
pub depth-inside : (down : Bool) (s : Site) → 2 * depth_of down s ≤ behind_of down s + 1
unfolding depth_of
depth-inside down s = omega arith
