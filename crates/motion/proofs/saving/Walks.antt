-- A row's walk, block by block: what is read and what is laid where a block starts at column x, and where no block starts any more.
-- Assumes nothing.
use Rattle.std.specs.Prelude.{Option, None, Some}
use mathlib.Core.Path.{◌≡◌, refl, sym, ap, ap₂, ◌∙◌}
use mathlib.Core.Bool.{Bool, true, false, ◌&&◌, not}
use mathlib.Core.List.{List, [], ◌++◌}
use Prim.Native.Nat.{ℕ, zero, suc, ◌+◌, ◌-◌, ◌*◌, ◌/◌, ◌≤◌, ◌<◌}
use native.Mathlib.Decide.{dec_lt}
use native.Mathlib.Numerals.{sub-one}
use native.Mathlib.Omega.{arith}
use lib.Dec.{ltb, eqb, lit≤}
use lib.IntN.{pos, nat_abs}
use lib.ListN.{length, get_or}
use borrow.Author.Tests.{le-ltb, lt-ltb, ltb-true, ltb-false, not-false}
use Rattle.ground.specs.Answer.{or_else}
use Rattle.ground.specs.Pick.{pick}
use Rattle.ground.specs.Sign.{from_to}
use Rattle.vector.specs.Vector.{within}
use Rattle.ground.specs.Put.{put, copies}
use Rattle.ground.specs.Script.{run}
use Rattle.ground.proofs.Picks.{pick_true, pick-false}
use Rattle.ground.proofs.Answers.{refused-not, both-accept, or-accepts, or-refuses}
use Rattle.ground.proofs.Puts.{put-append, copies_length}
use Rattle.cells.specs.declared.cell.Cell.{Cell}
use Rattle.cells.specs.declared.block.Block.{Block}
use Rattle.cells.specs.declared.size.Dims.{Dims}
use Rattle.cells.specs.Size.{size_of}
use Rattle.cells.specs.Cell.{cell_bytes}
use Rattle.cells.specs.Block.{well_block}
use Rattle.cells.proofs.Sizes.{narrow}
use Rattle.frame.specs.declared.hints.distances.RefHint.{RefHint}
use Rattle.frame.specs.Record.{no_hint}
use Rattle.rows.specs.declared.table.RowEntry.{RowEntry}
use Rattle.rows.specs.Table.{place_at}
use Rattle.motion.specs.declared.saving.area.Strip.{Strip}
use Rattle.motion.specs.saving.Save.{usable, no_cell, first_of_two, second_of_two, chosen, half_width, cells_wide, record_of, block_on, wide_on, block_read, walk_read, walk_bytes, entry_of, place_read, strip_read, row_read, place_patch}
use Rattle.motion.specs.Code.Walk.{usable_by, hint_place, chosen_by, record_read}

-- a block covers 1 to 16 cells
pub record Wide (n : ℕ) : Type 0 where
  pub some : 1 ≤ n
  pub few : n ≤ 16

pub wide : (code : ℕ) → Wide (cells_wide code)
unfolding half_width
wide code = by (size_of code) refl
  where
    by : (z : Option Dims) → size_of code ≡ z → Wide (half_width z)
    by (Some d) e = let k = narrow code d e in record { some = omega (arith, k.some-w); few = omega (arith, k.few-w) }
    by None e = record { some = lit≤ tt; few = lit≤ tt }

-- as code finds it, by the two cases of a size
pub wide_of : (code : ℕ) {r : ℕ} (z : Option Dims) (d : Dims) → z ≡ size_of code → z ≡ Some d → r ≡ (d.w.0 + 1) / 2
    → (r ≡ cells_wide code) × (1 ≤ r) × (r ≤ 16)
unfolding half_width
wide_of code {r} z d e k h =
    let q : r ≡ cells_wide code = h ∙ ap half_width (sym k ∙ e) in
    let w = wide code in
    (q, omega (arith, w.some), omega (arith, w.few))

pub wide-none : (code : ℕ) (z : Option Dims) → z ≡ size_of code → z ≡ None → (1 ≡ cells_wide code) × (1 ≤ 1) × (1 ≤ 16)
unfolding half_width
wide-none code z e k = (ap half_width (sym k ∙ e), lit≤ tt, lit≤ tt)

-- HINTS: read at the place of each reference, they say what all seven say
either : (refs : List RefHint) (n : ℕ) (w b : Bool)
    → (b && not (eqb (get_or refs (pick b n 0) no_hint).mfmv_sign 0) && w) ≡ (b && not (eqb (get_or refs n no_hint).mfmv_sign 0) && w)
either refs n w true = refl
either refs n w false = refl

usable-by : (refs : List RefHint) (c : Cell) → usable_by (get_or refs (hint_place c.reference.0) no_hint) c ≡ usable refs c
unfolding usable usable_by hint_place
usable-by refs c = either refs (nat_abs c.reference.0 - 1) (within 4095 c.mv) (from_to (pos 1) (pos 7) c.reference.0)

pub chosen_by_lem : (refs : List RefHint) (b : Block) {h h' : RefHint} → h ≡ get_or refs (hint_place b.refs.first.0) no_hint
    → h' ≡ get_or refs (hint_place b.refs.second.0) no_hint → chosen_by h h' b ≡ chosen refs b
unfolding chosen chosen_by
chosen_by_lem refs b e e' =
    ap₂ (λ (s t : Bool). pick s (second_of_two b) (pick t (first_of_two b) no_cell))
    (ap (λ (h : RefHint). usable_by h (second_of_two b)) e' ∙ usable-by refs (second_of_two b))
    (ap (λ (h : RefHint). usable_by h (first_of_two b)) e ∙ usable-by refs (first_of_two b))

-- of a row of records that starts at record o the first (total - o) / 2 cells have a listed one
listed : (total o x : ℕ) {n : ℕ} → n ≡ (total - o) / 2 → ltb x n ≡ ltb (record_of o x) total
listed total o x {n} e = by (dec_lt x n)
  where
    by : Dec (x < n) → ltb x n ≡ ltb (record_of o x) total
    by (yes l) = lt-ltb x n l ∙ sym (lt-ltb (record_of o x) total (omega arith))
    by (no l) = le-ltb x n (omega arith) ∙ sym (le-ltb (record_of o x) total (omega arith))

-- a record that is listed lies in a buffer that holds all that are
pub record-fits : (total len k : ℕ) → k < total → 12 * total ≤ len → 12 * k + 12 ≤ len
record-fits total len k h l = omega arith

-- a record whose read accepts is listed
pub record-there : (recs : List ℕ) (n o : ℕ) {r : ℕ} (x : ℕ) → r ≡ record_read recs n o x → r ≡ 0 → x < n
unfolding record_read
record-there recs n o x e z = ltb-true _ _ (not-false _ (refused-not (not (ltb x n)) 3 _ (sym e ∙ z)).0)

-- and lies in a buffer that holds all that are
pub listed-fits : (total len o x : ℕ) {n : ℕ} → n ≡ (total - o) / 2 → 12 * total ≤ len → x < n → 12 * record_of o x + 12 ≤ len
listed-fits total len o x e l h = omega arith

-- READS
module _ (recs : List ℕ) (total o limit : ℕ) where
  -- what a block that was read has passed
  pub record Passed (x : ℕ) : Type 0 where
    pub there : record_of o x < total
    pub fits : x + wide_on recs o x ≤ limit

  pub passed : {r : ℕ} (x : ℕ) → r ≡ block_read recs total o limit x → r ≡ 0 → Passed x
  unfolding block_read
  passed x e z =
      let p4 = refused-not (not (ltb (record_of o x) total)) 3 _ (sym e ∙ z) in
      let p8 = refused-not (not (well_block (block_on recs o x))) 7 _ p4.1 in
      let p9 = refused-not (ltb limit (x + wide_on recs o x)) 8 _ p8.1 in
      record { there = ltb-true _ _ (not-false _ p4.0); fits = ltb-false _ _ p9.0 }

  -- the record's answer, and where that accepts the limit's
  two : (s t : Bool) (r : ℕ) → pick s 4 (pick t 8 r) ≡ or_else (pick s 4 (pick t 8 0)) r
  two true t r = refl
  two false true r = refl
  two false false r = refl

  by-record : {n : ℕ} (x : ℕ) → n ≡ (total - o) / 2 → block_read recs total o limit x ≡ or_else (record_read recs n o x) (pick (ltb limit (x + wide_on recs o x)) 9 0)
  unfolding block_read record_read
  by-record x l = rw (← listed total o x l) (two (not (ltb x _)) (not (well_block (block_on recs o x))) _)

  pub record-refuses : {r n : ℕ} (x : ℕ) → n ≡ (total - o) / 2 → r ≡ record_read recs n o x → (r ≡ 0 → ⊥) → r ≡ block_read recs total o limit x
  record-refuses {n = n} x l e z = e ∙ sym (by-record x l ∙ or-refuses (record_read recs n o x) _ (λ y. z (e ∙ y)))

  pub past-limit : {r m n : ℕ} (x : ℕ) → n ≡ (total - o) / 2 → r ≡ record_read recs n o x → r ≡ 0 → m ≡ wide_on recs o x → limit < x + m → 9 ≡ block_read recs total o limit x
  past-limit {n = n} x l e z k h = sym (by-record x l ∙ or-accepts (record_read recs n o x) _ (sym e ∙ z) ∙ pick_true 0 (lt-ltb limit _ (rw (← k) h)))

  pub up-to-limit : {r m n : ℕ} (x : ℕ) → n ≡ (total - o) / 2 → r ≡ record_read recs n o x → r ≡ 0 → m ≡ wide_on recs o x → x + m ≤ limit → 0 ≡ block_read recs total o limit x
  up-to-limit {n = n} x l e z k h = sym (by-record x l ∙ or-accepts (record_read recs n o x) _ (sym e ∙ z) ∙ pick-false 9 (le-ltb limit _ (rw (← k) h)))

module _ (recs : List ℕ) (total o end limit : ℕ) where
  pub none_left : (n x : ℕ) → end ≤ x → 0 ≡ walk_read recs total o end limit n x
  unfolding walk_read
  none_left zero x h = refl
  none_left (suc n) x h = sym (pick-false _ (le-ltb x end h))

  -- a block starts at x
  opened : (n x : ℕ) → end - x ≤ n → x < end
      → walk_read recs total o end limit n x ≡ or_else (block_read recs total o limit x) (walk_read recs total o end limit (n - 1) (x + wide_on recs o x))
  unfolding walk_read
  opened zero x fuel more = absurd (omega arith)
  opened (suc n) x fuel more = rw sub-one (pick_true 0 (lt-ltb x end more))

  -- it answers for the row, or the rest does
  pub stops : {r : ℕ} (n x : ℕ) → end - x ≤ n → x < end → r ≡ block_read recs total o limit x → (r ≡ 0 → ⊥) → r ≡ walk_read recs total o end limit n x
  stops n x fuel more e z = e ∙ sym (opened n x fuel more ∙ or-refuses (block_read recs total o limit x) _ (λ y. z (e ∙ y)))

  pub next : {r m : ℕ} (n x : ℕ) → end - x ≤ n → x < end → r ≡ block_read recs total o limit x → r ≡ 0 → m ≡ wide_on recs o x
      → walk_read recs total o end limit (n - 1) (x + m) ≡ walk_read recs total o end limit n x
  next n x fuel more e z k =
      ap (λ (w : ℕ). walk_read recs total o end limit (n - 1) (x + w)) k
      ∙ sym (opened n x fuel more ∙ or-accepts (block_read recs total o limit x) _ (sym e ∙ z))

  -- a walk that passed: its first block, and the rest
  pub first : (n x : ℕ) → end - x ≤ n → x < end → walk_read recs total o end limit n x ≡ 0
      → Passed recs total o limit x × (walk_read recs total o end limit (n - 1) (x + wide_on recs o x) ≡ 0)
  first n x fuel more ok =
      let p = both-accept (block_read recs total o limit x) _ (sym (opened n x fuel more) ∙ ok) in
      (passed recs total o limit x refl p.0, p.1)

-- WRITES
module _ (recs : List ℕ) (refs : List RefHint) (o end : ℕ) where
  pub row-none : (s : List ℕ) (at n x : ℕ) → end ≤ x → put s at (walk_bytes recs refs o end n x) ≡ s
  unfolding walk_bytes put
  row-none s at zero x h = refl
  row-none s at (suc n) x h = rw (le-ltb x end h)

  pub row_opened : (n x : ℕ) → end - x ≤ n → x < end
      → walk_bytes recs refs o end n x ≡ copies (wide_on recs o x) (cell_bytes (chosen refs (block_on recs o x))) ++ walk_bytes recs refs o end (n - 1) (x + wide_on recs o x)
  unfolding walk_bytes
  row_opened zero x fuel more = absurd (omega arith)
  row_opened (suc n) x fuel more = rw sub-one (pick_true [] (lt-ltb x end more))

  -- a turn: a block's cells laid, and the rest of the row from there on. k is the number of the row's first cell.
  pub row-turn : (k : ℕ) (s : List ℕ) {t : List ℕ} (n x : ℕ) {m : ℕ} {c : Cell} → end - x ≤ n → x < end
      → m ≡ wide_on recs o x → c ≡ chosen refs (block_on recs o x) → t ≡ put s (5 * (k + x)) (copies m (cell_bytes c))
      → put t (5 * (k + (x + m))) (walk_bytes recs refs o end (n - 1) (x + m)) ≡ put s (5 * (k + x)) (walk_bytes recs refs o end n x)
  row-turn k s {t} n x {m} {c} fuel more em ec et =
      let l = copies_length m (cell_bytes c) in
      let e : 5 * (k + (x + m)) ≡ 5 * (k + x) + length (copies m (cell_bytes c)) = omega arith in
      rw (row_opened n x fuel more, ← em, ← ec, put-append, ← et) (ap (λ (i : ℕ). put t i (walk_bytes recs refs o end (n - 1) (x + m))) e)

-- A ROW, by its entry's place: where its columns are none, an entry that is absent does no harm
module _ (recs : List ℕ) (total : ℕ) (w : Strip) where
  pub strip-place : (p : Option ℕ) → strip_read recs total w p ≡ 0 → w.left.0 < w.end.0 → place_read recs total w p ≡ 0
  unfolding strip_read
  strip-place p z h = sym (pick_true 0 (lt-ltb w.left.0 w.end.0 h)) ∙ z

  pub place-walk : (p : Option ℕ) (o : ℕ) → p ≡ Some o → strip_read recs total w p ≡ 0
      → walk_read recs total o w.end.0 w.limit.0 (w.end.0 - w.left.0) w.left.0 ≡ 0
  unfolding place_read
  place-walk p o e z = by (dec_lt w.left.0 w.end.0)
    where
      by : Dec (w.left.0 < w.end.0) → walk_read recs total o w.end.0 w.limit.0 (w.end.0 - w.left.0) w.left.0 ≡ 0
      by (yes l) = rw e at (strip-place p z l)
      by (no l) = sym (none_left recs total o w.end.0 w.limit.0 (w.end.0 - w.left.0) w.left.0 (omega arith))

  pub row-place : {p : Option ℕ} (rows : List RowEntry) (y : ℕ) → p ≡ place_at rows (entry_of y) → row_read recs total rows w y ≡ 0
      → w.left.0 < w.end.0 → place_read recs total w p ≡ 0
  unfolding row_read
  row-place rows y e z h = rw e (strip-place (place_at rows (entry_of y)) z h)

module _ (recs : List ℕ) (refs : List RefHint) (w : Strip) (y : ℕ) where
  pub place-absent : (s : List ℕ) (p : Option ℕ) → p ≡ None → s ≡ run (place_patch recs refs w y p) s
  unfolding place_patch run
  place-absent s p e = rw e

  pub place_at_lem : (s : List ℕ) {t : List ℕ} (p : Option ℕ) (o : ℕ) → p ≡ Some o
      → t ≡ put s (5 * (y * w.stride.0 + w.left.0)) (walk_bytes recs refs o w.end.0 (w.end.0 - w.left.0) w.left.0)
      → t ≡ run (place_patch recs refs w y p) s
  unfolding place_patch run
  place_at_lem s p o e h = h ∙ rw e
