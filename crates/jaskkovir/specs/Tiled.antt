-- What the functions on superblock rows answer, and what they write. A frame, tile or record that is too short is refused with 4, before anything else.
use Rattle.std.specs.Prelude.{ℕ, Bool, ◌||◌, List, [], ltb, length}
use Rattle.ground.specs.Pick.{pick}
use Rattle.ground.specs.Answer.{accepted}
use Rattle.ground.specs.Script.{Patch}
use Rattle.cells.specs.Block.{block_at}
use Rattle.rows.specs.declared.setup.TileRange.{TileRange}
use Rattle.rows.specs.declared.setup.SbRow.{SbRow}
use Rattle.rows.specs.declared.splats.splat.Splat.{Splat}
use Rattle.rows.specs.Setup.{tile_of, rows_answer}
use Rattle.rows.specs.splats.Splat.{splat_answer, splat_script}
use Rattle.layout.specs.FrameBytes.{frame_at}
use Rattle.layout.specs.TileBytes.{tile_at, tile_bytes}
use Rattle.jaskkovir.specs.Framed.{whole, short_frame}

-- a tile and a record, in bytes
abbrev pub short_tile : ℕ → Bool
short_tile n = ltb n 168

abbrev pub short_block : ℕ → Bool
short_block n = ltb n 12

-- from start to before end
abbrev pub range : ℕ → ℕ → TileRange
range start end = record { start = record { 0 = start }; end = record { 0 = end } }

abbrev pub sb_row : (col_start col_end row_start row_end sby tile_row pass : ℕ) → SbRow
sb_row col_start col_end row_start row_end sby tile_row pass =
    record { col = range col_start col_end; row = range row_start row_end; sby = sby; tile = tile_row; pass = pass }

-- n is the length of the part lent for the tile
unfoldable pub row_init_answer : List ℕ → SbRow → ℕ → ℕ
row_init_answer frame r n = pick (short_frame (length frame) || short_tile n) 4 (rows_answer (frame_at frame) r)

unfoldable pub row_init_script : List ℕ → SbRow → ℕ → List Patch
row_init_script frame r n = accepted (row_init_answer frame r n) (whole (tile_bytes (tile_of (frame_at frame) r)))

-- the record that the bytes hold, and the place that it is laid over
unfoldable pub splat_of : List ℕ → (y x w h : ℕ) → Splat
splat_of block y x w h =
    record { block = block_at block 0; y = record { 0 = y }; x = record { 0 = x }; w = record { 0 = w }; h = record { 0 = h } }

unfoldable pub splat_lacks : (frame tile block : ℕ) → Bool
splat_lacks frame tile block = short_frame frame || (short_tile tile || short_block block)

-- n is the length of the part lent for the records
unfoldable pub laid_answer : (frame tile block : List ℕ) → (y x w h n : ℕ) → ℕ
laid_answer frame tile block y x w h n =
    pick (splat_lacks (length frame) (length tile) (length block)) 4 (splat_answer (frame_at frame) (tile_at tile) (splat_of block y x w h) n)

unfoldable pub laid_script : (frame tile block : List ℕ) → (y x w h n : ℕ) → List Patch
laid_script frame tile block y x w h n =
    pick (splat_lacks (length frame) (length tile) (length block)) [] (splat_script (frame_at frame) (tile_at tile) (splat_of block y x w h) n)
