-- The 168 bytes of a tile, 42 numbers of four bytes, the low byte first: the 37 entries of its table, the start of its part of the projection,
-- column start and end, row start and end.
use Rattle.std.specs.Prelude.{Option, None, Some}
use Rattle.std.specs.Prelude.{ℕ, ◌*◌, min, List, [], ◌∷◌, ◌++◌, eqb, get_or}
use Rattle.ground.specs.Pick.{pick}
use Rattle.ground.specs.Little.{four_at, four_bytes, fours}
use Rattle.rows.specs.declared.table.RowEntry.{RowEntry}
use Rattle.rows.specs.declared.setup.TileRange.{TileRange}
use Rattle.ground.specs.Tab.{tab}
use Rattle.rows.specs.Table.{none}
use Rattle.rows.specs.Setup.{Tile}

-- the largest number of four bytes stands for an absent row
abbrev pub absent_mark : ℕ
absent_mark = 4294967295

unfoldable pub place_of : ℕ → Option ℕ
place_of n = pick (eqb n absent_mark) None (Some n)

unfoldable pub place_number : Option ℕ → ℕ
place_number None = absent_mark
place_number (Some o) = o

-- The tile that any bytes hold.
unfoldable pub entry_in : List ℕ → ℕ → RowEntry
entry_in l e = record { at = place_of (four_at l (4 * e)) }

abbrev pub range_at : List ℕ → ℕ → ℕ → TileRange
range_at l i j = record { start = record { 0 = four_at l i }; end = record { 0 = four_at l j } }

unfoldable pub tile_at : List ℕ → Tile
tile_at l = record { rows = tab (entry_in l) 0 37; proj = four_at l 148; col = range_at l 152 156; row = range_at l 160 164 }

-- The bytes that hold a tile. A start past four bytes becomes the largest number of four: no block lies behind either.
abbrev pub entry_bytes : RowEntry → List ℕ
entry_bytes r = four_bytes (place_number r.at)

unfoldable pub entry_number : List RowEntry → ℕ → ℕ
entry_number rows e = place_number (get_or rows e none).at

unfoldable pub bound_numbers : Tile → List ℕ
bound_numbers t =
    t.proj ∷ min t.col.start.0 absent_mark ∷ t.col.end.0 ∷ min t.row.start.0 absent_mark ∷ t.row.end.0 ∷ []

unfoldable pub tile_bytes : Tile → List ℕ
tile_bytes t = fours (tab (entry_number t.rows) 0 37) ++ fours (bound_numbers t)
