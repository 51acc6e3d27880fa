-- A tile that was laid down, and read again: what superblock-row setup made comes back whole.
-- Assumes nothing.
use Rattle.std.specs.Prelude.{Option, None, Some}
use mathlib.Core.Path.{◌≡◌, refl, sym, ap, ◌∙◌}
use mathlib.Core.Bool.{Bool, true, false, ◌&&◌}
use mathlib.Core.List.{List}
use Prim.Native.Nat.{ℕ, ◌+◌, ◌*◌, ◌^◌, ◌≤◌, ◌<◌, min}
use native.Mathlib.Nat.{zero-add}
use native.Mathlib.Omega.{arith}
use lib.Dec.{ltb, leb}
use lib.ListN.{length, get_or}
use borrow.Author.Tests.{ne_eqb, lt-ltb, lt-leb, ltb-true, leb-true}
use Rattle.ground.specs.Put.{put}
use Rattle.ground.specs.Little.{four_at, fours}
use Rattle.ground.proofs.Picks.{pick_true, and_last}
use Rattle.ground.proofs.Littles.{four-whole}
use Rattle.cells.specs.declared.pos.Pos4.{Pos4}
use Rattle.frame.specs.declared.record.Frame.{Frame}
use Rattle.frame.specs.extent.Sizes.{records, well_sizes}
use Rattle.frame.proofs.extent.Sizing.{fits, part-fits, eighths-most, blocks-most, records-most}
use Rattle.frame.proofs.Records.{frame-sizes}
use Rattle.rows.specs.declared.setup.SbRow.{SbRow}
use Rattle.ground.specs.Tab.{tab}
use Rattle.rows.specs.Table.{none, table_of, place_at}
use Rattle.rows.specs.Setup.{table_for, cut_to, Tile, tile_of, in_frame, rows_answer}
use Rattle.rows.specs.splats.Splat.{holds}
use Rattle.ground.proofs.Tabs.{tab-at}
use Rattle.rows.proofs.Parts.{in_frame_lem, rows-accepted}
use Rattle.rows.proofs.Apart.{row_listed}
use Rattle.layout.specs.TileBytes.{absent_mark, place_of, place_number, entry_in, tile_at, entry_number, bound_numbers, tile_bytes}
use Rattle.ground.proofs.Tabs.{tab-length, tab-cong, tab-all}
use Rattle.layout.proofs.Places.{Agree, four_same, laid-agrees, fours-at}

-- a place whose number is no mark
Unmarked : Option ℕ → Type 0
Unmarked None = Unit {0}
Unmarked (Some o) = o < absent_mark

-- What the bytes of a tile can hold.
pub record Holdable (t : Tile) : Type 0 where
  table : length t.rows ≡ 37
  rows : (e : ℕ) → e < 37 → Unmarked (get_or t.rows e none).at
  proj : t.proj < 2 ^ 32
  left : t.col.start.0 < 2 ^ 32
  right : t.col.end.0 < 2 ^ 32
  top : t.row.start.0 < 2 ^ 32
  bottom : t.row.end.0 < 2 ^ 32

place_read : (p : Option ℕ) → Unmarked p → place_of (place_number p) ≡ p
unfolding place_of place_number Unmarked
place_read None h = refl
place_read (Some o) h = rw (ne_eqb o absent_mark (λ e. absurd (omega arith)))

number_fits : (p : Option ℕ) → Unmarked p → place_number p < 2 ^ 32
unfolding place_number Unmarked
number_fits None h = omega arith
number_fits (Some o) h = omega arith

module _ (t : Tile) (h : Holdable t) (l : List ℕ) (n : 168 ≤ length l) where
  long : length (tile_bytes t) ≡ 168
  unfolding tile_bytes tab fours bound_numbers
  long = refl

  agree : Agree (put l 0 (tile_bytes t)) (tile_bytes t) 168
  agree = laid-agrees l (tile_bytes t) 168 long n

  number : (k : ℕ) → k + 4 ≤ 168 → four_at (put l 0 (tile_bytes t)) k ≡ four_at (tile_bytes t) k
  number k e = four_same (put l 0 (tile_bytes t)) (tile_bytes t) 168 agree k e

  entry_read : (e : ℕ) → e < 37 → entry_in (put l 0 (tile_bytes t)) e ≡ get_or t.rows e none
  unfolding entry_in entry_number tile_bytes
  entry_read e k =
      let ns = tab (entry_number t.rows) 0 37 in
      let at : get_or ns e 0 ≡ entry_number t.rows e = tab-at (entry_number t.rows) 0 0 37 e k ∙ ap (entry_number t.rows) (zero-add e) in
      let fits : entry_number t.rows e < 2 ^ 32 = number_fits (get_or t.rows e none).at (h.rows e k) in
      let read = number (4 * e) (omega arith) ∙ fours-at ns (fours (bound_numbers t)) e (omega (arith, tab-length (entry_number t.rows) 0 37)) (omega arith) ∙ at in
      λ i. record { at = (ap place_of read ∙ place_read (get_or t.rows e none).at (h.rows e k)) i }

  table-read : tab (entry_in (put l 0 (tile_bytes t))) 0 37 ≡ t.rows
  table-read =
      tab-cong (entry_in (put l 0 (tile_bytes t))) (λ e. get_or t.rows e none) 0 37 (λ e a b. entry_read e (omega arith))
      ∙ tab-all none t.rows 37 h.table

  pub tile-back : tile_at (put l 0 (tile_bytes t)) ≡ t
  unfolding tile_at tile_bytes tab fours bound_numbers
  tile-back =
      let a : min t.col.start.0 absent_mark ≡ t.col.start.0 = omega (arith, h.left) in
      let b : min t.row.start.0 absent_mark ≡ t.row.start.0 = omega (arith, h.top) in
      let left = number 152 (omega arith) ∙ four-whole (min t.col.start.0 absent_mark) (omega arith) ∙ a in
      let top = number 160 (omega arith) ∙ four-whole (min t.row.start.0 absent_mark) (omega arith) ∙ b in
      let proj = number 148 (omega arith) ∙ four-whole t.proj h.proj in
      let right = number 156 (omega arith) ∙ four-whole t.col.end.0 h.right in
      let bottom = number 164 (omega arith) ∙ four-whole t.row.end.0 h.bottom in
      λ i.
      record {
        rows = table-read i;
        proj = proj i;
        col = record { start = record { 0 = left i }; end = record { 0 = right i } };
        row = record { start = record { 0 = top i }; end = record { 0 = bottom i } };
      }

-- What superblock-row setup makes where it accepts is such a tile, if the starts that it was handed fit four bytes.
by_place : (p : Option ℕ) → ((o : ℕ) → p ≡ Some o → o < absent_mark) → Unmarked p
unfolding Unmarked
by_place None h = tt
by_place (Some o) h = h o refl

module _ (f : Frame) (r : SbRow) (z : rows_answer f r ≡ 0) where
  well : well_sizes f.sizes ≡ true
  well = frame-sizes f (rows-accepted f r z).0

  inside : in_frame f.sizes r.tile ≡ true
  inside = (rows-accepted f r z).1

  entry-small : (e o : ℕ) → e < 37 → (get_or (table_for f.sizes r.sby r.tile r.pass) e none).at ≡ Some o → o < absent_mark
  unfolding place_at records
  entry-small e o h k =
      let there = pick_true None (lt-ltb e 37 h) ∙ k in
      let most = records-most f.sizes (fits f.sizes well) in
      omega (arith, row_listed f.sizes well r.sby r.tile r.pass e o inside there)

  table-long : length (table_for f.sizes r.sby r.tile r.pass) ≡ 37
  unfolding table_for table_of
  table-long = tab-length _ 0 37

  pub holdable : r.col.start.0 < 2 ^ 32 → r.row.start.0 < 2 ^ 32 → Holdable (tile_of f r)
  unfolding tile_of cut_to
  holdable a b =
      let s = f.sizes in
      let k = fits s well in
      let wide = eighths-most s.width k.limits.width.fits in
      let high = eighths-most s.height k.limits.height.fits in
      let blocks = blocks-most s.width s.tile_rows s.n_tile_threads k.limits.width.fits k.limits.rows in
      let part = part-fits s r.tile k (in_frame_lem s r.tile inside) in
      record {
        table = table-long;
        rows = λ e h. by_place (get_or (table_for s r.sby r.tile r.pass) e none).at (λ o p. entry-small e o h p);
        proj = omega (arith, k.blocks);
        left = a;
        right = omega (arith, k.iw4);
        top = b;
        bottom = omega (arith, k.ih4);
      }

-- a start past four bytes becomes one that no block lies behind either: of a tile that ends within a frame, neither holds a place
pub held_start : (most a : ℕ) (end : Pos4) (p : ℕ) → most < absent_mark → absent_mark ≤ a
    → holds most (record { start = record { 0 = a }; end = end }) p ≡ holds most (record { start = record { 0 = absent_mark }; end = end }) p
unfolding holds
held_start most a end p h k = by (ltb p end.0) (leb end.0 most) refl refl
  where
    by : (s t : Bool) → ltb p end.0 ≡ s → leb end.0 most ≡ t → ((leb a p && ltb p end.0) && leb end.0 most) ≡ ((leb absent_mark p && ltb p end.0) && leb end.0 most)
    by true true e g =
        let i = ltb-true p end.0 e in
        let j = leb-true end.0 most g in
        rw (lt-leb a p (omega arith), lt-leb absent_mark p (omega arith))
    by true false e g = rw g (and_last (leb a p && ltb p end.0) refl ∙ sym (and_last (leb absent_mark p && ltb p end.0) refl))
    by false t e g = rw e (ap (λ (x : Bool). x && leb end.0 most) (and_last (leb a p) refl ∙ sym (and_last (leb absent_mark p) refl)))
