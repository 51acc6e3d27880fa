-- What stands in the bytes of a frame and of a tile, part by part.
-- Assumes nothing.
use Rattle.std.specs.Prelude.{None}
use mathlib.Core.Path.{◌≡◌, refl, sym, ap, ◌∙◌}
use mathlib.Core.Bool.{Bool, true, false, not}
use mathlib.Core.List.{List}
use Prim.Native.Nat.{ℕ, zero, suc, ◌+◌, ◌*◌, ◌≤◌, ◌<◌}
use native.Mathlib.Nat.{zero-add}
use native.Mathlib.Omega.{arith}
use lib.ListN.{get_or}
use borrow.Author.Tests.{le-ltb, not-false}
use Rattle.ground.proofs.Picks.{pick-false}
use Rattle.frame.specs.Mfmv.{no_mfmv}
use Rattle.frame.specs.Record.{no_hint, well_frame}
use Rattle.frame.specs.extent.Sizes.{well_sizes}
use Rattle.frame.specs.declared.extent.sizes.Sizes.{Sizes}
use Rattle.frame.proofs.Records.{frame-sizes}
use Rattle.rows.specs.declared.table.RowEntry.{RowEntry}
use Rattle.rows.specs.Table.{none, place_at}
use Rattle.rows.specs.declared.setup.SbRow.{SbRow}
use Rattle.rows.specs.Setup.{in_frame, rows_answer}
use Rattle.rows.proofs.Parts.{rows-accepted}
use Rattle.ground.proofs.Tabs.{tab-at}
use Rattle.rows.proofs.Tabled.{entry-at}
use Rattle.layout.specs.FrameBytes.{sizes_at, ref_hint_at, ref_hints_at, mfmv_at, frame_at}
use Rattle.layout.specs.TileBytes.{entry_in, tile_at}

-- the seven hints, and the three selected references
pub hint-here : (l : List ℕ) (i : ℕ) → i < 7 → ref_hint_at l (51 + 4 * i) ≡ get_or (ref_hints_at l) i no_hint
unfolding ref_hints_at
hint-here l zero h = refl
hint-here l (suc zero) h = refl
hint-here l (suc (suc zero)) h = refl
hint-here l (suc (suc (suc zero))) h = refl
hint-here l (suc (suc (suc (suc zero)))) h = refl
hint-here l (suc (suc (suc (suc (suc zero))))) h = refl
hint-here l (suc (suc (suc (suc (suc (suc zero)))))) h = refl
hint-here l (suc (suc (suc (suc (suc (suc (suc i))))))) h = absurd (omega arith)

pub mfmv-here : (l : List ℕ) (i : ℕ) → i < 3 → mfmv_at l (79 + 10 * i) ≡ get_or (frame_at l).mfmvs i no_mfmv
unfolding frame_at
mfmv-here l zero h = refl
mfmv-here l (suc zero) h = refl
mfmv-here l (suc (suc zero)) h = refl
mfmv-here l (suc (suc (suc i))) h = absurd (omega arith)

-- an entry of a tile's table, and none behind it
pub entry_here : (l : List ℕ) (e : ℕ) → e < 37 → (entry_in l e).at ≡ place_at (tile_at l).rows e
unfolding tile_at
entry_here l e h =
    sym (ap (λ (r : RowEntry). r.at) (tab-at (entry_in l) none 0 37 e h ∙ ap (entry_in l) (zero-add e))) ∙ entry-at (tile_at l).rows e h

pub entry_past : (l : List ℕ) (e : ℕ) → 37 ≤ e → None ≡ place_at (tile_at l).rows e
unfolding place_at
entry_past l e h = sym (pick-false (get_or (tile_at l).rows e none).at (le-ltb e 37 h))

-- the sizes of a frame that is well formed: w is what its check answered
pub sizes-well : (l : List ℕ) {s : Sizes} {w : Bool} → s ≡ sizes_at l → w ≡ well_frame (frame_at l) → not w ≡ false → well_sizes s ≡ true
unfolding frame_at
sizes-well l {w = w} e f n = rw e (frame-sizes (frame_at l) (sym f ∙ not-false w n))

-- and what an accepted row setup tells of them
pub sizes-accepted : (l : List ℕ) (r : SbRow) {s : Sizes} → s ≡ sizes_at l → rows_answer (frame_at l) r ≡ 0
    → (well_sizes s ≡ true) × (in_frame s r.tile ≡ true)
unfolding frame_at
sizes-accepted l r e z =
    let a = rows-accepted (frame_at l) r z in
    rw e (frame-sizes (frame_at l) a.0, a.1)
