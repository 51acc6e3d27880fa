-- A block's record laid over the block's place (document 01, port order 4, refusals 1, 10, 4 and 6 in that order).
use Rattle.std.specs.Prelude.{ℕ, zero, suc, ◌+◌, ◌*◌, ◌%◌, Bool, ◌&&◌, not, List, [], ◌∷◌, ◌++◌, ltb, leb}
use Rattle.ground.specs.Pick.{pick}
use Rattle.ground.specs.Answer.{or_else, accepted}
use Rattle.ground.specs.Put.{copies}
use Rattle.ground.specs.Script.{Patch}
use Rattle.cells.specs.declared.block.Block.{Block}
use Rattle.cells.specs.Block.{block_bytes, well_block}
use Rattle.frame.specs.declared.extent.sizes.Sizes.{Sizes}
use Rattle.frame.specs.declared.record.Frame.{Frame}
use Rattle.frame.specs.extent.Sizes.{one_to, records}
use Rattle.frame.specs.Record.{well_frame}
use Rattle.std.specs.Prelude.{Option, None, Some}
use Rattle.rows.specs.declared.table.RowEntry.{RowEntry}
use Rattle.rows.specs.declared.setup.TileRange.{TileRange}
use Rattle.rows.specs.Setup.{Tile}
use Rattle.rows.specs.declared.splats.splat.Splat.{Splat}
use Rattle.rows.specs.Table.{place_at}

-- a block starts within its tile, and the tile ends within the frame
unfoldable pub holds : ℕ → TileRange → ℕ → Bool
holds most r p = leb r.start.0 p && ltb p r.end.0 && leb r.end.0 most

-- width and height are 1 .. 32, and no row of the block passes the end of a row of records
unfoldable pub spans : Sizes → Splat → Bool
spans s b = one_to 32 b.w.0 && one_to 32 b.h.0 && leb (b.x.0 + b.w.0) (2 * s.stride.0)

unfoldable pub placeable : Sizes → Tile → Splat → Bool
placeable s t b = holds s.iw4.0 t.col b.x.0 && holds s.ih4.0 t.row b.y.0 && spans s b && well_block b.block

-- the entry of the block's first row: the table spans 32 rows and starts with five above
unfoldable pub first_entry : ℕ → ℕ
first_entry y = y % 32 + 5

-- a row's records, from column x to before x + w = reach: absent, or past the listed records
unfoldable pub row_read : ℕ → ℕ → Option ℕ → ℕ
row_read total reach None = 6
row_read total reach (Some o) = pick (leb (o + reach) total) 0 4

-- n rows from entry e on, in order
unfoldable pub rows_read : List RowEntry → ℕ → ℕ → ℕ → ℕ → ℕ
rows_read rows total reach e zero = 0
rows_read rows total reach e (suc n) = or_else (row_read total reach (place_at rows e)) (rows_read rows total reach (suc e) n)

unfoldable pub splat_answer : Frame → Tile → Splat → ℕ → ℕ
splat_answer f t b length =
    pick (not (well_frame f)) 1
    (pick (not (placeable f.sizes t b)) 10
    (pick (ltb length (12 * records f.sizes)) 4
    (rows_read t.rows (records f.sizes) (b.x.0 + b.w.0) (first_entry b.y.0) b.h.0)))

-- one patch for each row: w records from column x on
unfoldable pub row_patch : Block → (x w : ℕ) → Option ℕ → List Patch
row_patch block x w None = []
row_patch block x w (Some o) = record { at = 12 * (o + x); bytes = copies w (block_bytes block) } ∷ []

unfoldable pub row_patches : List RowEntry → Block → (x w e n : ℕ) → List Patch
row_patches rows block x w e zero = []
row_patches rows block x w e (suc n) = row_patch block x w (place_at rows e) ++ row_patches rows block x w (suc e) n

unfoldable pub splat_script : Frame → Tile → Splat → ℕ → List Patch
splat_script f t b length =
    accepted (splat_answer f t b length)
    (row_patches t.rows b.block b.x.0 b.w.0 (first_entry b.y.0) b.h.0)
