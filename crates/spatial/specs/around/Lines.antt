-- The lines of neighbours on a block's two sides: `down` says that the left side is meant (7.10.2.2, 7.10.2.3).
use Rattle.std.specs.Prelude.{ℕ, ◌+◌, ◌-◌, ◌*◌, ◌/◌, ◌%◌, Bool, true, false, ltb}
use Rattle.ground.specs.Pick.{pick}
use Rattle.spatial.specs.declared.site.block.Site.{Site}
use Rattle.spatial.specs.site.Site.{side_of, limit_of, depth_of}
use Rattle.spatial.specs.declared.neighbours.read.Line.{Line}
use Rattle.spatial.specs.declared.scan.Span.{Span}

-- the block's first row among the 32 that the table spans; entry e of the table is row e - 5 of them
unfoldable pub row_of : Site → ℕ
row_of b = b.y.0 % 32

-- v | 1
unfoldable pub odd_of : ℕ → ℕ
odd_of v = v / 2 * 2 + 1

-- the row above from the block's first column on, and the column to the left from its first row on
unfoldable pub near_line : Bool → Site → Line
near_line down b =
    pick down (record { entry = row_of b + 5; col = record { 0 = b.x.0 - 1 }; down = true })
    (record { entry = row_of b + 4; col = b.x; down = false })

-- Line n, 2 or 3, is 2 n - 1 off: the row ( r - ( 2 n - 1 ) ) | 1 from column c | 1 on, and the column ( c - ( 2 n - 1 ) ) | 1 from row r | 1 on. Odd rows
-- have even entries.
unfoldable pub far_line : Bool → Site → ℕ → Line
far_line down b n =
    pick down (record { entry = odd_of (row_of b) + 5; col = record { 0 = odd_of (b.x.0 + 1 - 2 * n) }; down = true })
    (record { entry = (row_of b + 7 - 2 * n) / 2 * 2; col = record { 0 = odd_of b.x.0 }; down = false })

-- the least that a neighbour counts for: 4 along a side of 16 units or more
unfoldable pub step_of : ℕ → ℕ → ℕ
step_of side least = pick (ltb side 16) least 4

abbrev pub span_of : Bool → Site → (rows least : ℕ) → Span
span_of down b rows least =
    record {
      size = record { 0 = side_of down b };
      limit = record { 0 = limit_of down b };
      rows = rows;
      step = record { 0 = step_of (side_of down b) least };
    }

unfoldable pub near_span : Bool → Site → Span
near_span down b =
    span_of down b (depth_of down b) 1

-- beyond the near line everything is in pairs
unfoldable pub far_span : Bool → Site → ℕ → Span
far_span down b n =
    span_of down b (1 + depth_of down b - n) 2
