-- A neighbour, read: document 01's refusals 6, 4 and 8, in that order.
use Rattle.std.specs.Prelude.{Option, None, Some}
use Rattle.cells.specs.declared.size.Dims.{Dims}
use Rattle.std.specs.Prelude.{ℕ, ◌+◌, Bool, not, List, ltb}
use Rattle.ground.specs.Pick.{pick}
use Rattle.cells.specs.declared.block.Block.{Block}
use Rattle.cells.specs.Block.{block_at, well_block}
use Rattle.cells.specs.Size.{size_of}
use Rattle.rows.specs.declared.table.RowEntry.{RowEntry}
use Rattle.rows.specs.Table.{place_at}
use Rattle.spatial.specs.declared.neighbours.read.Neighbour.{Neighbour}
use Rattle.spatial.specs.declared.neighbours.read.Line.{Line}
use Rattle.spatial.specs.declared.neighbours.read.NeighbourRead.{NeighbourRead}
use Rattle.spatial.specs.declared.neighbours.read.NeighbourRead.TheVariants.{Of, Refused}

unfoldable pub judged : Block → NeighbourRead
judged k = pick (well_block k) (Of (record { block = k })) (Refused 8)

-- column col of a row that starts at record o; there are `total` listed records
unfoldable pub record_at : List ℕ → ℕ → ℕ → ℕ → NeighbourRead
record_at recs total o col = pick (ltb (o + col) total) (judged (block_at recs (o + col))) (Refused 4)

abbrev pub in_row : List ℕ → ℕ → ℕ → Option ℕ → NeighbourRead
in_row recs total col None = Refused 6
in_row recs total col (Some o) = record_at recs total o col

-- the record of an entry's row and a column
unfoldable pub read_at : List RowEntry → List ℕ → ℕ → ℕ → ℕ → NeighbourRead
read_at rows recs total e col = in_row recs total col (place_at rows e)

-- Along a row and down a column are one: `down` says which. A size code's side along the line; a code that is refused has none.
abbrev pub side_in : Bool → Option Dims → ℕ
side_in down (Some d) = pick down d.h.0 d.w.0
side_in down None = 0

unfoldable pub side_of : Bool → ℕ → ℕ
side_of down code = side_in down (size_of code)

-- a neighbour's size along the line, and across
unfoldable pub along_of : Bool → Neighbour → ℕ
along_of down k = side_of down k.block.bs

unfoldable pub across_of : Bool → Neighbour → ℕ
across_of down k = side_of (not down) k.block.bs

abbrev pub entry_of : Line → ℕ → ℕ
entry_of l i = pick l.down (l.entry + i) l.entry

abbrev pub col_of : Line → ℕ → ℕ
col_of l i = pick l.down l.col.0 (l.col.0 + i)

-- the neighbours of a line, by their place along it, out of those by entry and column
unfoldable pub line_at : (ℕ → ℕ → NeighbourRead) → Line → ℕ → NeighbourRead
line_at read l i = read (entry_of l i) (col_of l i)
