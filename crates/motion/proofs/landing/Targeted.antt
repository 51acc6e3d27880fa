-- A load by its targets, for readers: each cell of the projection after a row, what no step changes, and that a load goes by its sources alone.
-- Assumes nothing.
use mathlib.Core.Path.{◌≡◌, refl, sym, ap, ap₂, ◌∙◌, subst}
use mathlib.Core.Logic.{◌⊎◌, ⊎_elim}
use mathlib.Core.Bool.{Bool, true, false, not, ◌&&◌}
use mathlib.Core.List.{List}
use Prim.Native.Nat.{ℕ, ◌+◌, ◌-◌, ◌*◌, ◌%◌, ◌≤◌, ◌<◌}
use native.Mathlib.Decide.{ℕ_discrete, dec_lt}
use native.Mathlib.Nat.{mod-lt}
use native.Mathlib.Omega.{arith}
use lib.Dec.{T, eqb, leb, ltb}
use lib.IntN.{ℤ, pos, negsuc, sub_ℕ, nat_abs}
use lib.ListN.{length}
use lib.Signed.{mag}
use borrow.Author.Tests.{not-true, eq-eqb, ne_eqb, leb-true, ltb-true}
use Rattle.ground.specs.Pick.{pick}
use Rattle.ground.specs.Put.{put}
use Rattle.ground.specs.Script.{run, Avoids}
use Rattle.ground.proofs.Lasts.{view, last_none, last-is}
use Rattle.ground.proofs.Picks.{both, pick_true, pick-false}
use Rattle.ground.proofs.Products.{row_fits, one_place}
use Rattle.ground.proofs.Spans as spans
use Rattle.cells.specs.declared.cell.Cell.{Cell}
use Rattle.cells.specs.Cell.{cell_at, cell_bytes, saved_absent, well_saved}
use Rattle.cells.proofs.Cells.{cell-outside, cell-back, saved-moves}
use Rattle.vector.proofs.Vectors.{Fits}
use Rattle.motion.specs.declared.saving.area.Window.{Window}
use Rattle.motion.specs.declared.landing.land.Motion.{Motion}
use Rattle.motion.specs.landing.Lands.{ref_offset, row_to, col_to, between, group, reaches, moves, lands, leaves, spot, landing}
use Rattle.motion.specs.landing.Row.{first_source, end_source, lane, row_script, wipe, clear_row}
use Rattle.motion.specs.landing.Targets.{lands_at, row_seen, Outside}
use Rattle.motion.specs.Code.Places.{Bounded, Numbers, Sound}

-- a signed place within two naturals is a natural
record In (a b : ℕ) (p : ℤ) : Type 0 where
  low : a ≤ nat_abs p
  high : nat_abs p < b

in_two : (a b : ℕ) (p : ℤ) → between (pos a) (pos b) p ≡ true → In a b p
in_two a b (pos n) h = let s = both (leb a n) (ltb n b) h in record { low = leb-true a n s.0; high = ltb-true n b s.1 }
in_two a b (negsuc n) h = absurd (subst (λ z. T (not z)) h tt)

-- what a landing tells
record Landed (w : Window) (m : Motion) (y x : ℕ) (c : Cell) : Type 0 where
  moving : moves m c ≡ true
  row : In w.top.0 w.bottom.0 (row_to m c y)
  col : In w.left.0 w.right.0 (col_to m c x)

last_of : (slack start end v : ℕ) (p : ℤ) → reaches slack start end v p ≡ true → In start end p
unfolding reaches
last_of slack start end v p h = in_two start end p (both (between (sub_ℕ (group v) slack) (pos (group v + 8 + slack)) p) (between (pos start) (pos end) p) h).1

landed : (w : Window) (m : Motion) (y x : ℕ) (c : Cell) → lands w m y x c ≡ true → Landed w m y x c
unfolding lands
landed w m y x c h =
    let s = both (moves m c) _ h in
    let t = both (reaches 0 w.top.0 w.bottom.0 y (row_to m c y)) (reaches 8 w.left.0 w.right.0 x (col_to m c x)) s.1 in
    record { moving = s.0; row = last_of 0 w.top.0 w.bottom.0 y (row_to m c y) t.0; col = last_of 8 w.left.0 w.right.0 x (col_to m c x) t.1 }

-- two cells of the projection are one where their rows and their columns are
same_spot : (base s r t p q : ℕ) → t < s → q < s → eqb (base + r * s + t) (base + p * s + q) ≡ (eqb r p && eqb t q)
same_spot base s r t p q ht hq = by (ℕ_discrete r p) (ℕ_discrete t q)
  where
    by : Dec (r ≡ p) → Dec (t ≡ q) → eqb (base + r * s + t) (base + p * s + q) ≡ (eqb r p && eqb t q)
    by (yes e) (yes f) =
        let k : r * s ≡ p * s = ap (λ (n : ℕ). n * s) e in
        eq-eqb (base + r * s + t) (base + p * s + q) (omega arith) ∙ sym (ap₂ ◌&&◌ (eq-eqb r p e) (eq-eqb t q f))
    by (no e) f =
        ne_eqb (base + r * s + t) (base + p * s + q) (λ z. e (one_place s r t p q ht hq (omega arith)).0) ∙ sym (ap (λ (b : Bool). b && eqb t q) (ne_eqb r p e))
    by (yes e) (no f) =
        ne_eqb (base + r * s + t) (base + p * s + q) (λ z. f (one_place s r t p q ht hq (omega arith)).1) ∙ sym (ap₂ ◌&&◌ (eq-eqb r p e) (ne_eqb t q f))

-- a cell read after one was laid, there or elsewhere
cell-view : (l : List ℕ) (k j : ℕ) (v : Cell) → 5 * j + 5 ≤ length l → Fits v.mv → mag v.reference.0 < 128
    → cell_at (put l (5 * j) (cell_bytes v)) k ≡ pick (eqb j k) v (cell_at l k)
cell-view l k j v fits f r = by (ℕ_discrete j k)
  where
    by : Dec (j ≡ k) → cell_at (put l (5 * j) (cell_bytes v)) k ≡ pick (eqb j k) v (cell_at l k)
    by (yes e) = ap (cell_at (put l (5 * j) (cell_bytes v))) (sym e) ∙ cell-back l j v fits f r ∙ sym (pick_true (cell_at l k) (eq-eqb j k e))
    by (no n) = cell-outside l (5 * j) (cell_bytes v) k (side (dec_lt k j)) ∙ sym (pick-false v (ne_eqb j k n))
      where
        side : Dec (k < j) → (5 * k + 5 ≤ 5 * j) ⊎ (5 * j + 5 ≤ 5 * k)
        side (yes p) = ◌⊎◌.inl (omega arith)
        side (no p) = ◌⊎◌.inr (omega arith)

-- what lands reads back: a well-formed source's vector, and a distance
reads-back : (m : Motion) (c : Cell) → Numbers m → well_saved c ≡ true → moves m c ≡ true → Fits (leaves m c).mv × (mag (leaves m c).reference.0 < 128)
unfolding moves
reads-back m c n h t =
    let a = not-true (saved_absent c) (both (not (saved_absent c)) (not (eqb (ref_offset m c) 0)) t).0 in
    let v = (saved-moves c h a).near in
    let d = n.apart (nat_abs c.reference.0 - 1) in
    (record { y = omega (arith, mag-abs c.mv.y, v.y); x = omega (arith, mag-abs c.mv.x, v.x) }, omega arith)
  where
    mag-abs : (z : ℤ) → mag z ≤ nat_abs z
    mag-abs (pos k) = omega arith
    mag-abs (negsuc k) = omega arith

module _ (cells : ℕ → Cell) (w : Window) (m : Motion) (y : ℕ) (n : ℕ) (bound : Bounded w) (fits : 5 * (w.part + 16 * w.stride.0) ≤ n) (numbers : Numbers m)
    (p q : ℕ) (hq : q < w.stride.0) where
  abbrev pub here : ℕ
  here = w.part + p * w.stride.0 + q

  -- one column
  column : (x : ℕ) → well_saved (cells x) ≡ true → (l : List ℕ) → length l ≡ n
      → cell_at (run (lane cells w m y x) l) here ≡ pick (lands_at w m p q y x (cells x)) (leaves m (cells x)) (cell_at l here)
  unfolding lane landing lands_at run spot
  column x sound l long = by (lands w m y x (cells x)) refl
    where
      c : Cell
      c = cells x

      by : (b : Bool) → lands w m y x c ≡ b → cell_at (run (lane cells w m y x) l) here ≡ pick (lands_at w m p q y x c) (leaves m c) (cell_at l here)
      by false e = rw e
      by true e =
          let h = landed w m y x c e in
          let r = nat_abs (row_to m c y) % 16 in
          let k = row_fits r 16 w.stride.0 (mod-lt (nat_abs (row_to m c y)) (omega arith)) in
          let b = reads-back m c numbers sound h.moving in
          rw e
          (cell-view l here (w.part + r * w.stride.0 + nat_abs (col_to m c x)) (leaves m c) (omega (arith, h.col.high, bound.wide)) b.0 b.1
          ∙ ap (λ (z : Bool). pick z (leaves m c) (cell_at l here)) (same_spot w.part w.stride.0 r (nat_abs (col_to m c x)) p q (omega (arith, h.col.high, bound.wide)) hq))

  module _ (sound : Sound cells (first_source w) (end_source w)) (l : List ℕ) (long : length l ≡ n) where
    -- THE POINTWISE LAW: the cell at (p, q) after the row is what the last source that lands there leaves, else what it was
    pub row-cell : cell_at (run (row_script cells w m y) l) here ≡ row_seen cells w m p q y (cell_at l here)
    unfolding row_script row_seen
    row-cell =
        view (λ (k : List ℕ). cell_at k here) (lane cells w m y) (λ (x : ℕ) (d : Cell). pick (lands_at w m p q y x (cells x)) (leaves m (cells x)) d) n
        (first_source w) (end_source w) (λ x a e k long'. column x (sound x a e) k long') l long

    -- the same by a source that lands there with none after it that does, and where none lands
    pub row_last : (x : ℕ) → first_source w ≤ x → x < end_source w → lands_at w m p q y x (cells x) ≡ true
        → ((i : ℕ) → x < i → i < end_source w → lands_at w m p q y i (cells i) ≡ false) → cell_at (run (row_script cells w m y) l) here ≡ leaves m (cells x)
    unfolding row_seen
    row_last x a b t h =
        row-cell
        ∙ last-is (λ i. lands_at w m p q y i (cells i)) (λ i. leaves m (cells i)) (first_source w) x (end_source w) (cell_at l here) a b t h

    pub row_kept : ((i : ℕ) → first_source w ≤ i → i < end_source w → lands_at w m p q y i (cells i) ≡ false)
        → cell_at (run (row_script cells w m y) l) here ≡ cell_at l here
    unfolding row_seen
    row_kept h = row-cell ∙ last_none (λ i. lands_at w m p q y i (cells i)) (λ i. leaves m (cells i)) (first_source w) (end_source w) (cell_at l here) h

-- NOTHING OUTSIDE THE WINDOW CHANGES
lane-avoids : (cells : ℕ → Cell) (w : Window) (m : Motion) (y i : ℕ) → Outside w i → (x : ℕ) → Avoids i (lane cells w m y x)
unfolding Outside lane landing
lane-avoids cells w m y i out x = by (lands w m y x (cells x)) refl
  where
    c : Cell
    c = cells x

    by : (b : Bool) → lands w m y x c ≡ b → Avoids i (lane cells w m y x)
    by false e = rw e tt
    by true e =
        let h = landed w m y x c e in
        rw e (out (nat_abs (row_to m c y)) (nat_abs (col_to m c x)) h.row.low h.row.high h.col.low h.col.high, tt)

pub row-avoids : (cells : ℕ → Cell) (w : Window) (m : Motion) (y i : ℕ) → Outside w i → Avoids i (row_script cells w m y)
unfolding row_script
row-avoids cells w m y i out = spans.avoids (lane cells w m y) i (first_source w) (end_source w) (λ x _ _. lane-avoids cells w m y i out x)

pub clear-avoids : (w : Window) (y i : ℕ) → Outside w i → w.top.0 ≤ y → y < w.bottom.0 → Avoids i (clear_row w y)
unfolding Outside clear_row wipe
clear-avoids w y i out a b =
    spans.avoids (wipe w y) i w.left.0 w.right.0 (λ q c d. (⊎_elim (λ l. ◌⊎◌.inl l) (λ l. ◌⊎◌.inr (omega arith)) (out y q a b c d), tt))
