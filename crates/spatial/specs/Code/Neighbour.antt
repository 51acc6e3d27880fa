-- These definitions follow the code: the neighbours that lent bytes hold, of a tile and of so many records, by entry and column; and those of a line.
use Rattle.std.specs.Prelude.{ℕ, List}
use Rattle.layout.specs.TileBytes.{tile_at}
use Rattle.spatial.specs.declared.neighbours.read.Line.{Line}
use Rattle.spatial.specs.declared.neighbours.read.NeighbourRead.{NeighbourRead}
use Rattle.spatial.specs.declared.neighbours.records.Records.{Records}
use Rattle.spatial.specs.neighbours.Neighbour.{read_at, line_at}

abbrev pub read_in : (tile recs : List ℕ) (total : ℕ) → ℕ → ℕ → NeighbourRead
read_in tile recs total = read_at (tile_at tile).rows recs total

abbrev pub line_in : (tile recs : List ℕ) (total : ℕ) → Line → ℕ → NeighbourRead
line_in tile recs total l = line_at (read_in tile recs total) l

-- the same of the records that the code reads
abbrev pub read_from : Records → ℕ → ℕ → NeighbourRead
read_from r = read_in r.tile.now r.recs.now r.total

abbrev pub line_from : Records → Line → ℕ → NeighbourRead
line_from r = line_in r.tile.now r.recs.now r.total
