-- What a search looks at: records of the table's rows (7.10.2.2 to 7.10.2.4, 7.10.2.12) and projected cells (7.10.2.5), by the block's place alone.
use Rattle.std.specs.Prelude.{Some}
use Rattle.std.specs.Prelude.{ℕ, ◌+◌, ◌-◌, ◌*◌, ◌/◌, ◌≤◌, ◌<◌, ◌≡◌, Bool, true, false, ◌&&◌, List, get_or}
use Rattle.rows.specs.declared.table.RowEntry.{RowEntry}
use Rattle.rows.specs.Table.{place_at}
use Rattle.spatial.specs.declared.site.block.Site.{Site}
use Rattle.spatial.specs.site.Site.{limit_of, depth_of}
use Rattle.spatial.specs.declared.neighbours.read.NeighbourRead.{NeighbourRead}
use Rattle.spatial.specs.neighbours.Neighbour.{entry_of, col_of}
use Rattle.spatial.specs.around.Lines.{row_of, near_line, far_line}
use Rattle.spatial.specs.around.Around.{has_right, has_left}
use Rattle.temporal.specs.declared.aim.CellRead.{CellRead}
use Rattle.temporal.specs.declared.sweep.Field.{Field}
use Rattle.temporal.specs.Sweep.{stride_along, cells_along, has_corners, there, leftward}

-- An entry of the table and a column: on the lines that touch the block, on the two beyond them, and the points above right and above left.
pub data Place (b : Site) : ℕ → ℕ → Type 0 where
  touching : (down : Bool) (i : ℕ) → 1 ≤ depth_of down b → i < limit_of down b → Place b (entry_of (near_line down b) i) (col_of (near_line down b) i)
  beyond : (down : Bool) (n i : ℕ) → 2 ≤ n → n ≤ 3 → n ≤ depth_of down b → i < limit_of down b
      → Place b (entry_of (far_line down b n) i) (col_of (far_line down b n) i)
  above_right : has_right b true ≡ true → Place b (row_of b + 4) (b.x.0 + b.w.0)
  above_left : has_left b ≡ true → Place b (row_of b + 4) (b.x.0 - 1)

-- A cell of the projection: in the block's own rows and columns of cells, and the three at its corners.
pub data Spot (f : Field) (b : Site) : ℕ → Type 0 where
  own : (r c : ℕ) → r < cells_along (limit_of true b) (stride_along b.h.0) → c < cells_along (limit_of false b) (stride_along b.w.0)
      → Spot f b (f.first + r * (stride_along b.h.0 * f.stride.0) + c * stride_along b.w.0)
  below_left : has_corners b ≡ true → (there true b (b.h.0 / 2) && leftward b) ≡ true → Spot f b (f.first + b.h.0 / 2 * f.stride.0 - 1)
  below_right : has_corners b ≡ true → (there false b (b.w.0 / 2) && there true b (b.h.0 / 2)) ≡ true
      → Spot f b (f.first + b.h.0 / 2 * f.stride.0 + b.w.0 / 2)
  right : has_corners b ≡ true → (there false b (b.w.0 / 2) && there true b (b.h.0 / 2 - 1)) ≡ true
      → Spot f b (f.first + b.h.0 / 2 * f.stride.0 + b.w.0 / 2 - f.stride.0)

-- two ways to read that agree there
abbrev pub SamePlaces : Site → (read read' : ℕ → ℕ → NeighbourRead) → Type 0
SamePlaces b read read' = (e c : ℕ) → Place b e c → read e c ≡ read' e c

abbrev pub SameSpots : Field → Site → (cells cells' : ℕ → CellRead) → Type 0
SameSpots f b cells cells' = (i : ℕ) → Spot f b i → cells i ≡ cells' i

-- The record of a place: its row's first one, which the table has, and the column; it is one of the listed records.
pub data Seen (rows : List RowEntry) (total : ℕ) (b : Site) : ℕ → Type 0 where
  seen : (e c o : ℕ) → Place b e c → place_at rows e ≡ Some o → o + c < total → Seen rows total b (o + c)

-- item i, of n bytes, is the same in two lists
abbrev pub SameItem : ℕ → (l m : List ℕ) → ℕ → Type 0
SameItem n l m i = (j : ℕ) → n * i ≤ j → j < n * i + n → get_or l j 0 ≡ get_or m j 0
