-- Superblock-row setup: a tile row's part of the buffers, the table of its rows, the tile's bounds (document 01, port order 4, refusals 12, 1 and 3).
use Rattle.std.specs.Prelude.{ℕ, ◌+◌, ◌*◌, ◌%◌, min, Bool, ◌&&◌, ◌||◌, not, List, eqb, ltb, leb}
use Rattle.ground.specs.Pick.{pick}
use Rattle.frame.specs.declared.extent.sizes.Sizes.{Sizes}
use Rattle.frame.specs.declared.record.Frame.{Frame}
use Rattle.frame.specs.extent.Sizes.{part_of}
use Rattle.frame.specs.Record.{well_frame}
use Rattle.rows.specs.declared.table.RowEntry.{RowEntry}
use Rattle.rows.specs.declared.setup.TileRange.{TileRange}
use Rattle.rows.specs.declared.setup.SbRow.{SbRow}
use Rattle.rows.specs.Table.{table_of}

-- the second pass has records of its own where frames are under way at once
unfoldable pub pass_start : Sizes → ℕ → ℕ
pass_start s pass = pick (ltb 1 s.n_frame_threads && eqb pass 2) (70 * s.n_blocks) 0

-- each part has 35 rows of 2 * stride records: 32 of a superblock row, 3 above
unfoldable pub part_start : Sizes → ℕ → ℕ → ℕ
part_start s part pass = 70 * (part * s.stride.0) + pass_start s pass

abbrev pub odd_row : ℕ → Bool
odd_row sby = eqb (sby % 2) 1

unfoldable pub table_for : Sizes → (sby tile pass : ℕ) → List RowEntry
table_for s sby tile pass = table_of s.sbsz.0 (odd_row sby) (part_start s (part_of s tile) pass) (2 * s.stride.0)

-- a tile's end is cut to the frame
unfoldable pub cut_to : ℕ → TileRange → TileRange
cut_to most r = record { start = r.start; end = record { 0 = min r.end.0 most } }

-- what a block of a superblock row is decoded with: where the rows of records lie, the first cell of the tile row's part of the projection, the tile's bounds
pub record Tile : Type 0 where
  pub rows : List RowEntry
  pub proj : ℕ
  pub col : TileRange
  pub row : TileRange

unfoldable pub tile_of : Frame → SbRow → Tile
tile_of f r =
    record {
      rows = table_for f.sizes r.sby r.tile r.pass;
      proj = 16 * (part_of f.sizes r.tile * f.sizes.stride.0);
      col = cut_to f.sizes.iw4.0 r.col;
      row = cut_to f.sizes.ih4.0 r.row;
    }

-- a tile's end is not before its start, and its tile row, by the one-thread rule, is one of the frame's
unfoldable pub ordered : TileRange → Bool
ordered r = leb r.start.0 r.end.0

unfoldable pub in_frame : Sizes → ℕ → Bool
in_frame s tile = ltb (part_of s tile) s.tile_rows

unfoldable pub is_pass : ℕ → Bool
is_pass pass = eqb pass 1 || eqb pass 2

unfoldable pub rows_answer : Frame → SbRow → ℕ
rows_answer f r =
    pick (not (is_pass r.pass)) 12
    (pick (not (well_frame f)) 1
    (pick (ordered r.col && ordered r.row && in_frame f.sizes r.tile) 0 3))
