-- The motion field saving process (7.19) as document 01 has it (port order 5; refusals 12, 1, 3 and 4, then each row's reads, 6, 4, 8 and 9).
use Rattle.std.specs.Prelude.{Option, None, Some}
use Rattle.cells.specs.declared.size.Dims.{Dims}
use Rattle.std.specs.Prelude.{ℕ, zero, suc, ◌+◌, ◌-◌, ◌*◌, ◌/◌, ◌%◌, Bool, ◌&&◌, not, List, [], ◌∷◌, ◌++◌, ltb, eqb, pos, nat_abs, length, get_or}
use Rattle.ground.specs.Pick.{pick}
use Rattle.ground.specs.Answer.{or_else, accepted}
use Rattle.ground.specs.Put.{copies}
use Rattle.ground.specs.Script.{Patch}
use Rattle.ground.specs.Sign.{from_to}
use Rattle.ground.specs.Span.{span, first_of}
use Rattle.vector.specs.Vector.{within}
use Rattle.cells.specs.declared.cell.Cell.{Cell}
use Rattle.cells.specs.declared.block.Block.{Block}
use Rattle.cells.specs.Size.{size_of}
use Rattle.cells.specs.Cell.{cell_bytes}
use Rattle.cells.specs.Block.{block_at, well_block}
use Rattle.frame.specs.declared.hints.distances.RefHint.{RefHint}
use Rattle.frame.specs.declared.record.Frame.{Frame}
use Rattle.frame.specs.extent.Sizes.{saved_cells, records}
use Rattle.frame.specs.Record.{no_hint, well_frame}
use Rattle.rows.specs.declared.table.RowEntry.{RowEntry}
use Rattle.rows.specs.Table.{place_at}
use Rattle.rows.specs.Setup.{is_pass, table_for}
use Rattle.motion.specs.declared.saving.area.Area.{Area}
use Rattle.motion.specs.declared.saving.area.Strip.{Strip}
use Rattle.motion.specs.saving.Area.{well_area, bottom_of, strip_of}

-- a reference above INTRA whose hint lies before the current frame, with components within REFMVS_LIMIT
unfoldable pub usable : List RefHint → Cell → Bool
usable refs c =
    from_to (pos 1) (pos 7) c.reference.0 && not (eqb (get_or refs (nat_abs c.reference.0 - 1) no_hint).mfmv_sign 0) && within 4095 c.mv

-- nothing is kept: all five bytes are zero
abbrev pub no_cell : Cell
no_cell = record { mv = record { y = pos 0; x = pos 0 }; reference = record { 0 = pos 0 } }

-- the second list's vector and reference stand before the first's
abbrev pub second_of_two : Block → Cell
second_of_two b = record { mv = b.mv.second; reference = b.refs.second }

abbrev pub first_of_two : Block → Cell
first_of_two b = record { mv = b.mv.first; reference = b.refs.first }

unfoldable pub chosen : List RefHint → Block → Cell
chosen refs b = pick (usable refs (second_of_two b)) (second_of_two b) (pick (usable refs (first_of_two b)) (first_of_two b) no_cell)

-- a block's width in cells, halved upwards
unfoldable pub half_width : Option Dims → ℕ
half_width (Some d) = (d.w.0 + 1) / 2
half_width None = 1

abbrev pub cells_wide : ℕ → ℕ
cells_wide code = half_width (size_of code)

-- The record that cell x of a row is saved from, at odd column 2x + 1 of a row of records that starts at record o; and how many cells its block covers.
abbrev pub record_of : ℕ → ℕ → ℕ
record_of o x = o + (2 * x + 1)

abbrev pub block_on : List ℕ → ℕ → ℕ → Block
block_on recs o x = block_at recs (record_of o x)

abbrev pub wide_on : List ℕ → ℕ → ℕ → ℕ
wide_on recs o x = cells_wide (block_on recs o x).bs

-- one read: past the listed records 4, not well formed 8, past the column limit 9
unfoldable pub block_read : List ℕ → (total o limit x : ℕ) → ℕ
block_read recs total o limit x =
    pick (not (ltb (record_of o x) total)) 4 (pick (not (well_block (block_on recs o x))) 8 (pick (ltb limit (x + wide_on recs o x)) 9 0))

-- From column x on, block by block, while the column is before the end. Each block covers at least one cell, so n blocks are enough where end - x is at most n.
unfoldable pub walk_read : List ℕ → (total o end limit n x : ℕ) → ℕ
walk_read recs total o end limit zero x = 0
walk_read recs total o end limit (suc n) x =
    pick (ltb x end) (or_else (block_read recs total o limit x) (walk_read recs total o end limit n (x + wide_on recs o x))) 0

unfoldable pub walk_bytes : List ℕ → List RefHint → (o end n x : ℕ) → List ℕ
walk_bytes recs refs o end zero x = []
walk_bytes recs refs o end (suc n) x =
    pick (ltb x end)
    (copies (wide_on recs o x) (cell_bytes (chosen refs (block_on recs o x))) ++ walk_bytes recs refs o end n (x + wide_on recs o x))
    []

-- the table's entry for row y of the cells: the odd row 2 (y mod 16) + 1 of the table's own, which stand behind the five above
unfoldable pub entry_of : ℕ → ℕ
entry_of y = 6 + 2 * (y % 16)

-- a row's reads: its entry is needed where a block is walked
unfoldable pub place_read : List ℕ → ℕ → Strip → Option ℕ → ℕ
place_read recs total w None = 6
place_read recs total w (Some o) = walk_read recs total o w.end.0 w.limit.0 (w.end.0 - w.left.0) w.left.0

unfoldable pub strip_read : List ℕ → ℕ → Strip → Option ℕ → ℕ
strip_read recs total w p = pick (ltb w.left.0 w.end.0) (place_read recs total w p) 0

unfoldable pub row_read : List ℕ → ℕ → List RowEntry → Strip → ℕ → ℕ
row_read recs total rows w y = strip_read recs total w (place_at rows (entry_of y))

-- THE STEP OF A SAVE: row y's cells, from the left column on
unfoldable pub place_patch : List ℕ → List RefHint → Strip → ℕ → Option ℕ → List Patch
place_patch recs refs w y None = []
place_patch recs refs w y (Some o) =
    record { at = 5 * (y * w.stride.0 + w.left.0); bytes = walk_bytes recs refs o w.end.0 (w.end.0 - w.left.0) w.left.0 } ∷ []

unfoldable pub row_patch : List ℕ → List RowEntry → List RefHint → Strip → ℕ → List Patch
row_patch recs rows refs w y = place_patch recs refs w y (place_at rows (entry_of y))

-- what is judged before the reads, by the buffers' lengths
unfoldable pub save_front : Frame → Area → (pass nrecs nfield : ℕ) → ℕ
save_front f a pass nrecs nfield =
    pick (not (is_pass pass)) 12
    (pick (not (well_frame f)) 1
    (pick (not (well_area f.sizes a)) 3
    (pick (ltb nfield (5 * saved_cells f.sizes)) 4
    (pick (ltb nrecs (12 * records f.sizes)) 4 0))))

-- the table is what superblock-row setup gives
abbrev pub save_table : Frame → Area → (sby pass : ℕ) → List RowEntry
save_table f a sby pass = table_for f.sizes sby a.tile pass

unfoldable pub save_reads : List ℕ → Frame → Area → (sby pass : ℕ) → ℕ
save_reads recs f a sby pass =
    first_of (row_read recs (records f.sizes) (save_table f a sby pass) (strip_of f.sizes a)) a.top.0 (bottom_of f.sizes a)

unfoldable pub save_answer : List ℕ → Frame → Area → (sby pass nfield : ℕ) → ℕ
save_answer recs f a sby pass nfield = or_else (save_front f a pass (length recs) nfield) (save_reads recs f a sby pass)

-- THE SAVE: its rows in order
unfoldable pub save_script : List ℕ → Frame → Area → (sby pass nfield : ℕ) → List Patch
save_script recs f a sby pass nfield =
    accepted (save_answer recs f a sby pass nfield)
    (span (row_patch recs (save_table f a sby pass) f.refs (strip_of f.sizes a)) a.top.0 (bottom_of f.sizes a))
