-- A block's sides and their surroundings, along the row above it and down the column to its left: `down` says that the column is meant.
use Rattle.std.specs.Prelude.{ℕ, ◌+◌, ◌-◌, ◌/◌, min, Bool, not, eqb}
use Rattle.ground.specs.Pick.{pick}
use Rattle.spatial.specs.declared.site.block.Site.{Site}

-- bw4, or bh4
unfoldable pub side_of : Bool → Site → ℕ
side_of down s = pick down s.h.0 s.w.0

-- from the block's start to the tile's end
unfoldable pub rest_of : Bool → Site → ℕ
rest_of down s = pick down (s.row.end.0 - s.y.0) (s.col.end.0 - s.x.0)

-- a scan stays below the side, 16 units and the tile's end
unfoldable pub limit_of : Bool → Site → ℕ
limit_of down s = min (min (side_of down s) 16) (rest_of down s)

-- from the tile's start to the side, across
unfoldable pub behind_of : Bool → Site → ℕ
behind_of down s = pick down (s.x.0 - s.col.start.0) (s.y.0 - s.row.start.0)

-- lines 1, 3 and 5 off, the last of them only where the block has more than one unit across
unfoldable pub deepest : ℕ → ℕ
deepest across = pick (eqb across 1) 2 3

-- Line n of them, from 1 on, is 2 n - 1 off: those that lie inside the tile. There is none at the tile's edge.
unfoldable pub depth_of : Bool → Site → ℕ
depth_of down s = min ((behind_of down s + 1) / 2) (deepest (side_of (not down) s))
