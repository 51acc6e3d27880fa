-- A splat's rows: read one after the other, laid one after the other, and what acceptance tells.
-- Assumes nothing.
use mathlib.Core.Path.{◌≡◌, refl, sym, ap, ◌∙◌}
use mathlib.Core.Bool.{Bool, true, false, ◌&&◌, not}
use mathlib.Core.List.{List}
use Prim.Native.Nat.{ℕ, zero, suc, ◌+◌, ◌-◌, ◌*◌, ◌/◌, ◌≤◌, ◌<◌}
use native.Mathlib.Numerals.{add-one, sub-one}
use native.Mathlib.Nat.{mul-le-mul, le_refl}
use native.Mathlib.Omega.{arith}
use lib.Dec.{leb, ltb, eqb}
use borrow.Author.Tests.{leb-true, le-leb, lt-leb, ltb-false, not-false}
use Rattle.ground.specs.Pick.{pick}
use Rattle.ground.specs.Put.{put, copies}
use Rattle.ground.specs.Script.{run, Inside}
use Rattle.ground.proofs.Picks.{both}
use Rattle.ground.proofs.Diffs.{Which, more, less, which}
use Rattle.ground.proofs.Answers.{refused-not, both-accept, or-accepts, or-refuses, accepted-inside}
use Rattle.ground.proofs.Puts.{copies_length}
use Rattle.ground.proofs.Scripts.{run-append, inside-append}
use Rattle.cells.specs.declared.block.Block.{Block}
use Rattle.cells.specs.Block.{block_bytes, well_block}
use Rattle.std.specs.Prelude.{Option, None, Some}
use Rattle.rows.specs.declared.table.RowEntry.{RowEntry}
use Rattle.rows.specs.Table.{place_at}
use Rattle.frame.specs.declared.extent.sizes.Sizes.{Sizes}
use Rattle.frame.specs.declared.record.Frame.{Frame}
use Rattle.frame.specs.extent.Sizes.{one_to, part_of, passes_of, records}
use Rattle.frame.specs.Record.{well_frame}
use Rattle.frame.proofs.extent.Sizing.{Fits, part-fits, passes-some}
use Rattle.rows.specs.Setup.{Tile}
use Rattle.rows.specs.declared.splats.splat.Splat.{Splat}
use Rattle.rows.specs.splats.Splat.{holds, spans, placeable, first_entry, row_read, rows_read, splat_answer, row_patch, row_patches, splat_script}

-- Reading: the loop counts down, and what is left answers for the whole.
module _ (rows : List RowEntry) (total reach : ℕ) where
  pub read-on : {a : ℕ} (e left : ℕ) → 0 < left → a ≡ row_read total reach (place_at rows e) → a ≡ 0
      → rows_read rows total reach (e + 1) (left - 1) ≡ rows_read rows total reach e left
  unfolding rows_read
  read-on e zero h r z = absurd (omega arith)
  read-on e (suc n) h r z = rw (add-one, sub-one) (sym (or-accepts (row_read total reach (place_at rows e)) (rows_read rows total reach (suc e) n) (sym r ∙ z)))

  pub read-stops : {a : ℕ} (e left : ℕ) → 0 < left → a ≡ row_read total reach (place_at rows e) → (a ≡ 0 → ⊥) → a ≡ rows_read rows total reach e left
  unfolding rows_read
  read-stops e zero h r z = absurd (omega arith)
  read-stops e (suc n) h r z = r ∙ sym (or-refuses (row_read total reach (place_at rows e)) (rows_read rows total reach (suc e) n) (λ y. z (r ∙ y)))

  pub read_done : (e left : ℕ) → left ≤ 0 → 0 ≡ rows_read rows total reach e left
  unfolding rows_read
  read_done e zero h = refl
  read_done e (suc n) h = absurd (omega arith)

  -- rows that are there, the first and the rest
  pub read_first : (e left : ℕ) → 0 < left → rows_read rows total reach e left ≡ 0
      → (row_read total reach (place_at rows e) ≡ 0) × (rows_read rows total reach (e + 1) (left - 1) ≡ 0)
  unfolding rows_read
  read_first e zero h z = absurd (omega arith)
  read_first e (suc n) h z = rw (add-one, sub-one) (both-accept (row_read total reach (place_at rows e)) (rows_read rows total reach (suc e) n) z)

-- a row that is there in part of a buffer is there in the whole
pub row-there : (total reach : ℕ) (p : Option ℕ) (o : ℕ) → p ≡ Some o → row_read total reach p ≡ 0 → o + reach ≤ total
unfolding row_read
row-there total reach p o e z = leb-true (o + reach) total (by (leb (o + reach) total) (rw e at z))
  where
    by : (b : Bool) → ◌≡◌ {A = ℕ} (pick b 0 4) 0 → b ≡ true
    by true h = refl
    by false h = absurd (omega arith)

row-wider : (total whole reach : ℕ) (p : Option ℕ) → total ≤ whole → row_read total reach p ≡ 0 → row_read whole reach p ≡ 0
unfolding row_read
row-wider total whole reach None l z = z
row-wider total whole reach (Some o) l z =
    let h = row-there total reach (Some o) o refl z in
    ap (λ (b : Bool). pick b 0 4) (le-leb (o + reach) whole (omega arith))

pub rows-wider : (rows : List RowEntry) (total whole reach e n : ℕ) → total ≤ whole → rows_read rows total reach e n ≡ 0 → rows_read rows whole reach e n ≡ 0
unfolding rows_read
rows-wider rows total whole reach e zero l z = refl
rows-wider rows total whole reach e (suc n) l z =
    let p = both-accept (row_read total reach (place_at rows e)) (rows_read rows total reach (suc e) n) z in
    or-accepts (row_read whole reach (place_at rows e)) (rows_read rows whole reach (suc e) n) (row-wider total whole reach (place_at rows e) l p.0)
    ∙ rows-wider rows total whole reach (suc e) n l p.1

-- a row, and the rows
pub row-absent : (s : List ℕ) (block : Block) (x w : ℕ) (p : Option ℕ) → p ≡ None → s ≡ run (row_patch block x w p) s
unfolding row_patch run
row-absent s block x w p e = rw e

pub row_at : (s : List ℕ) {t : List ℕ} (block : Block) (x w o : ℕ) (p : Option ℕ) → p ≡ Some o → t ≡ put s (12 * (o + x)) (copies w (block_bytes block))
    → t ≡ run (row_patch block x w p) s
unfolding row_patch run
row_at s block x w o p e h = h ∙ rw e

module _ (rows : List RowEntry) (block : Block) (x w : ℕ) where
  pub rows_on : (s : List ℕ) {t : List ℕ} (e left : ℕ) → 0 < left → t ≡ run (row_patch block x w (place_at rows e)) s
      → run (row_patches rows block x w (e + 1) (left - 1)) t ≡ run (row_patches rows block x w e left) s
  unfolding row_patches
  rows_on s e zero h k = absurd (omega arith)
  rows_on s e (suc n) h k = rw (k, add-one, sub-one) (sym (run-append (row_patch block x w (place_at rows e)) (row_patches rows block x w (suc e) n) s))

  pub rows-done : (s : List ℕ) (e left : ℕ) → left ≤ 0 → run (row_patches rows block x w e left) s ≡ s
  unfolding row_patches run
  rows-done s e zero h = refl
  rows-done s e (suc n) h = absurd (omega arith)

-- a test with the width moved to the other side
pub moved : (x w most : ℕ) → w ≤ most → leb x (most - w) ≡ leb (x + w) most
moved x w most h = by (which most (x + w))
  where
    by : Which most (x + w) → leb x (most - w) ≡ leb (x + w) most
    by (more l) = le-leb x (most - w) (omega arith) ∙ sym (le-leb (x + w) most (omega arith))
    by (less l) = lt-leb x (most - w) (omega arith) ∙ sym (lt-leb (x + w) most (omega arith))

-- what a block that can be placed tells: its rows end within a row of records, and it has at most 32
pub record Placed (s : Sizes) (b : Splat) : Type 0 where
  pub reach : b.x.0 + b.w.0 ≤ 2 * s.stride.0
  pub height : b.h.0 ≤ 32

pub placed : (s : Sizes) (t : Tile) (b : Splat) → placeable s t b ≡ true → Placed s b
unfolding placeable spans one_to
placed s t b e =
    let held = holds s.iw4.0 t.col b.x.0 && holds s.ih4.0 t.row b.y.0 in
    let w = (both held (spans s b) (both (held && spans s b) (well_block b.block) e).0).1 in
    let p = both (one_to 32 b.w.0 && one_to 32 b.h.0) (leb (b.x.0 + b.w.0) (2 * s.stride.0)) w in
    let h = both (leb 1 b.h.0) (leb b.h.0 32) (both (one_to 32 b.w.0) (one_to 32 b.h.0) p.0).1 in
    record { reach = leb-true (b.x.0 + b.w.0) (2 * s.stride.0) p.1; height = leb-true b.h.0 32 h.1 }

-- a row of records is no longer than all of them
pub row_listed : (s : Sizes) → Fits s → 2 * s.stride.0 ≤ records s
unfolding records part_of
row_listed s f = by (eqb s.n_tile_threads 1) refl
  where
    by : (b : Bool) → eqb s.n_tile_threads 1 ≡ b → 2 * s.stride.0 ≤ 70 * s.n_blocks * passes_of s.n_frame_threads + 1
    by b e =
        let z : part_of s 0 ≡ 0 = ap (λ (c : Bool). pick c 0 0) e ∙ none b in
        let h = part-fits s 0 f (omega (arith, f.limits.rows.some)) in
        let k = passes-some s.n_frame_threads in
        let m : 70 * s.n_blocks * 1 ≤ 70 * s.n_blocks * passes_of s.n_frame_threads = mul-le-mul (le_refl (70 * s.n_blocks)) k in
        omega arith
      where
        none : (b : Bool) → ◌≡◌ {A = ℕ} (pick b 0 0) 0
        none true = refl
        none false = refl

-- what acceptance tells: every row of the block is there in a buffer of that length
pub record Accepted (f : Frame) (t : Tile) (b : Splat) (len : ℕ) : Type 0 where
  pub placed : Placed f.sizes b
  pub there : rows_read t.rows (len / 12) (b.x.0 + b.w.0) (first_entry b.y.0) b.h.0 ≡ 0

pub accepted : (f : Frame) (t : Tile) (b : Splat) (len : ℕ) → splat_answer f t b len ≡ 0 → Accepted f t b len
unfolding splat_answer
accepted f t b len e =
    let p1 = refused-not (not (well_frame f)) 0 _ e in
    let p2 = refused-not (not (placeable f.sizes t b)) 9 _ p1.1 in
    let p3 = refused-not (ltb len (12 * records f.sizes)) 3 _ p2.1 in
    let l = ltb-false len (12 * records f.sizes) p3.0 in
    record {
      placed = placed f.sizes t b (not-false _ p2.0);
      there = rows-wider t.rows (records f.sizes) (len / 12) _ _ _ (omega arith) p3.1;
    }

pub entry-most : (y : ℕ) → first_entry y ≤ 36
unfolding first_entry
entry-most y = omega arith

-- Nothing is written past the listed records, whatever the call is given.
row_inside : (block : Block) (total x w : ℕ) (p : Option ℕ) → row_read total (x + w) p ≡ 0 → Inside 0 (12 * total) (row_patch block x w p)
unfolding row_patch
row_inside block total x w None z = tt
row_inside block total x w (Some o) z =
    let h = row-there total (x + w) (Some o) o refl z in
    let l = copies_length w (block_bytes block) in
    ((omega arith, omega arith), tt)

rows_inside : (rows : List RowEntry) (block : Block) (total x w e n : ℕ) → rows_read rows total (x + w) e n ≡ 0
    → Inside 0 (12 * total) (row_patches rows block x w e n)
unfolding rows_read row_patches
rows_inside rows block total x w e zero z = tt
rows_inside rows block total x w e (suc n) z =
    let p = both-accept (row_read total (x + w) (place_at rows e)) (rows_read rows total (x + w) (suc e) n) z in
    inside-append 0 (12 * total) (row_patch block x w (place_at rows e)) (row_patches rows block x w (suc e) n) (row_inside block total x w (place_at rows e) p.0)
    (rows_inside rows block total x w (suc e) n p.1)

pub splat-inside : (f : Frame) (t : Tile) (b : Splat) (len : ℕ) → Inside 0 (12 * records f.sizes) (splat_script f t b len)
unfolding splat_script splat_answer
splat-inside f t b len =
    accepted-inside 0 (12 * records f.sizes) (splat_answer f t b len) _
    (λ e.
    let p1 = refused-not (not (well_frame f)) 0 _ e in
    let p2 = refused-not (not (placeable f.sizes t b)) 9 _ p1.1 in
    let p3 = refused-not (ltb len (12 * records f.sizes)) 3 _ p2.1 in
    rows_inside t.rows b.block (records f.sizes) b.x.0 b.w.0 _ _ p3.1)
