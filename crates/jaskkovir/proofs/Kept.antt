-- What frame setup and superblock-row setup write is read again as what they made.
-- Assumes nothing.
use mathlib.Core.Path.{◌≡◌, sym, ap, ◌∙◌}
use mathlib.Core.Bool.{Bool, ◌||◌}
use mathlib.Core.List.{List}
use Prim.Native.Nat.{ℕ, ◌^◌, ◌≤◌, ◌<◌}
use lib.ListN.{length, take}
use Rattle.ground.specs.Script.{run}
use Rattle.ground.proofs.Answers.{refused-not, run-accepted}
use Rattle.frame.specs.declared.hints.description.Description.{Description}
use Rattle.frame.specs.hints.Description.{setup_answer}
use Rattle.frame.specs.Record.{frame_of}
use Rattle.rows.specs.declared.setup.SbRow.{SbRow}
use Rattle.rows.specs.Setup.{tile_of, rows_answer}
use Rattle.layout.specs.FrameBytes.{frame_at, frame_bytes}
use Rattle.layout.specs.TileBytes.{tile_at, tile_bytes}
use Rattle.layout.proofs.KeptFrame.{frame_back, setup-holdable}
use Rattle.layout.proofs.KeptTile.{tile-back, holdable}
use Rattle.jaskkovir.specs.Framed.{whole, short_frame, init_answer, init_script}
use Rattle.jaskkovir.specs.Tiled.{short_tile, row_init_answer, row_init_script}

-- the record that `jaskkovir_init_frame` wrote is the one that setup made
pub frame-kept : (l : List ℕ) (lacks : Bool) (d : Description) (present : List ℕ) → 109 ≤ length l → init_answer lacks d present ≡ 0
    → frame_at (run (init_script lacks d present) l) ≡ frame_of d (take 7 present)
unfolding init_answer init_script run
frame-kept l lacks d present n z =
    let e = (refused-not lacks 3 (setup_answer d (take 7 present)) z).1 in
    let f = frame_of d (take 7 present) in
    ap frame_at (sym (run-accepted (init_answer lacks d present) (whole (frame_bytes f)) l z))
    ∙ frame_back f (setup-holdable d (take 7 present) e) l n

-- the tile that `jaskkovir_tile_sbrow_init` wrote is the one that setup made
pub tile-kept : (l frame : List ℕ) (r : SbRow) (n : ℕ) → 168 ≤ length l → row_init_answer frame r n ≡ 0
    → r.col.start.0 < 2 ^ 32 → r.row.start.0 < 2 ^ 32 → tile_at (run (row_init_script frame r n) l) ≡ tile_of (frame_at frame) r
unfolding row_init_answer row_init_script run
tile-kept l frame r n k z a b =
    let f = frame_at frame in
    let e = (refused-not (short_frame (length frame) || short_tile n) 3 (rows_answer f r) z).1 in
    let t = tile_of f r in
    ap tile_at (sym (run-accepted (row_init_answer frame r n) (whole (tile_bytes t)) l z)) ∙ tile-back t (holdable f r e a b) l k
