-- This definition follows the code: what inner routines require of a block in its tile.
use Rattle.std.specs.Prelude.{◌≤◌, ◌<◌}
use Rattle.frame.specs.extent.Sizes.{most_units}
use Rattle.spatial.specs.declared.site.block.Site.{Site}

-- The block starts inside its tile, its sides are 1 to 32 units, and no frame has more than `most_units`.
pub record Placed (s : Site) : Type 0 where
  pub top : s.row.start.0 ≤ s.y.0
  pub left : s.col.start.0 ≤ s.x.0
  pub above : s.y.0 < s.row.end.0
  pub before : s.x.0 < s.col.end.0
  pub high : s.row.end.0 ≤ most_units
  pub wide : s.col.end.0 ≤ most_units
  pub some : (1 ≤ s.w.0) × (1 ≤ s.h.0)
  pub most : (s.w.0 ≤ 32) × (s.h.0 ≤ 32)
