-- What the definition lays of one source cell, and of a run of like cells, by the cases of the code.
-- Assumes nothing.
use mathlib.Core.Path.{◌≡◌, refl, sym, ap, ap₂, ◌∙◌}
use mathlib.Core.Bool.{Bool, true, false, not, ◌&&◌}
use mathlib.Core.List.{List, [], ◌∷◌}
use Prim.Native.Nat.{ℕ, ◌+◌, ◌-◌, ◌*◌, ◌%◌}
use native.Mathlib.Omega.{arith}
use lib.IntN.{ℤ, pos, sub_ℕ, nat_abs}
use lib.ListN.{get_or}
use borrow.Author.Tests.{eq-eqb, ne_eqb}
use Rattle.ground.specs.Pick.{pick}
use Rattle.ground.specs.Put.{put}
use Rattle.ground.specs.Script.{Patch, run}
use Rattle.ground.specs.Span.{span}
use Rattle.ground.specs.Sign.{from_to}
use Rattle.ground.proofs.Picks.{and_last, or_off, both}
use Rattle.ground.proofs.Spans.{one, nil, alike}
use Rattle.vector.specs.Vector.{invalid, mv_bytes, Within, within}
use Rattle.vector.specs.Projection.{projected}
use Rattle.vector.proofs.Projections.{projected-within}
use Rattle.cells.specs.declared.cell.Cell.{Cell}
use Rattle.cells.specs.Cell.{saved_absent, well_saved, cell_bytes}
use Rattle.cells.proofs.Cells.{saved-moves}
use Rattle.motion.specs.declared.saving.area.Window.{Window}
use Rattle.motion.specs.declared.landing.land.Motion.{Motion}
use Rattle.motion.specs.declared.landing.land.Shift.{Shift}
use Rattle.motion.specs.landing.Lands.{ref_offset, row_to, col_to, reaches, moves, lands, spot, laid, landing}
use Rattle.motion.specs.landing.Row.{lane, wipe}
use Rattle.motion.specs.Code.Places.{shift, near, apart_by, stamp, Taken, Shifted, Run}
use Rattle.motion.proofs.landing.Placed.{moved-is, reaches-is, near-in, as_place}

module _ (w : Window) (m : Motion) (y x : ℕ) (c : Cell) where
  -- no reference, or no distance
  pub still-absent : saved_absent c ≡ true → landing w m y x c ≡ []
  unfolding landing lands moves
  still-absent h = rw h

  pub still-apart : ref_offset m c ≡ 0 → landing w m y x c ≡ []
  unfolding landing lands moves
  still-apart h =
      ap
      (λ (b : Bool).
      pick (b && (reaches 0 w.top.0 w.bottom.0 y (row_to m c y) && reaches 8 w.left.0 w.right.0 x (col_to m c x)))
      (laid (spot w (nat_abs (row_to m c y)) (nat_abs (col_to m c x))) (record { mv = c.mv; reference = record { 0 = pos (ref_offset m c) } }) ∷ []) [])
      (and_last (not (saved_absent c)) (ap not (eq-eqb (ref_offset m c) 0 h)))

-- a distance read from the lent seven is the cell's own
pub lent-apart : (m : Motion) (c : Cell) (t : List ℕ) {d : ℕ} → t ≡ m.apart → d ≡ get_or t (nat_abs c.reference.0 - 1) 0 → d ≡ ref_offset m c
lent-apart m c t p h = h ∙ ap (λ (a : List ℕ). get_or a (nat_abs c.reference.0 - 1) 0) p

module _ (w : Window) (y x : ℕ) (c : Cell) (p : ℕ) where
  laying : Bool → ℤ → ℤ → ℕ → List Patch
  laying mv py px k =
      pick (mv && (reaches 0 w.top.0 w.bottom.0 y py && reaches 8 w.left.0 w.right.0 x px)) (laid (spot w (nat_abs py) (nat_abs px)) (apart_by c k) ∷ []) []

  by-none : {mv : Bool} {py : ℤ} (px : ℤ) (k : ℕ) → mv ≡ true → py ≡ sub_ℕ p 256 → near 0 w.top.0 w.bottom.0 y p ≡ false → laying mv py px k ≡ []
  unfolding laying
  by-none px k e f h = rw (e, f, reaches-is 0 w.top.0 w.bottom.0 y p, h)

  by-stamp : {mv : Bool} {py px : ℤ} {k : ℕ} (d den : ℕ) → mv ≡ true → py ≡ sub_ℕ p 256 → px ≡ sub_ℕ (x + d) 256 → k ≡ den
      → near 0 w.top.0 w.bottom.0 y p ≡ true → laying mv py px k ≡ stamp w (w.part + (p - 256) % 16 * w.stride.0) d (apart_by c den) x
  unfolding laying stamp spot
  by-stamp d den e f g q h =
      rw (e, f, g, q, reaches-is 0 w.top.0 w.bottom.0 y p, reaches-is 8 w.left.0 w.right.0 x (x + d), h) (by (near 8 w.left.0 w.right.0 x (x + d)) refl)
    where
      by : (b : Bool) → near 8 w.left.0 w.right.0 x (x + d) ≡ b
          → pick b (laid (w.part + nat_abs (sub_ℕ p 256) % 16 * w.stride.0 + nat_abs (sub_ℕ (x + d) 256)) (apart_by c den) ∷ []) []
          ≡ pick b (laid (w.part + (p - 256) % 16 * w.stride.0 + (x + d - 256)) (apart_by c den) ∷ []) []
      by false k = refl
      by true k =
          let i = near-in _ _ _ _ _ h in
          let j = near-in _ _ _ _ _ k in
          ap₂ (λ (r t : ℕ). laid (w.part + r % 16 * w.stride.0 + t) (apart_by c den) ∷ []) (as_place p (omega arith)) (as_place (x + d) (omega arith))

module _ (w : Window) (m : Motion) (y : ℕ) (c : Cell) (den : ℕ) (t : Taken m c den) (s : Shift) (sh : Shifted m den c s) where
  has-moved : moves m c ≡ true
  unfolding moves
  has-moved = rw (t.some, ne_eqb (ref_offset m c) 0 (omega arith))

  at_y : row_to m c y ≡ sub_ℕ (y + s.y) 256
  at_y =
      moved-is m.back (projected m.cur (ref_offset m c) c.mv.y) y (projected-within m.cur (ref_offset m c) c.mv).y
      ∙ ap (λ (n : ℕ). sub_ℕ (y + n) 256) (ap (λ (k : ℕ). shift m.back (projected m.cur k c.mv.y)) (sym t.is) ∙ sym sh.y)

  at_x : (x : ℕ) → col_to m c x ≡ sub_ℕ (x + s.x) 256
  at_x x =
      moved-is m.back (projected m.cur (ref_offset m c) c.mv.x) x (projected-within m.cur (ref_offset m c) c.mv).x
      ∙ ap (λ (n : ℕ). sub_ℕ (x + n) 256) (ap (λ (k : ℕ). shift m.back (projected m.cur k c.mv.x)) (sym t.is) ∙ sym sh.x)

  -- the row is out of reach
  pub gone : near 0 w.top.0 w.bottom.0 y (y + s.y) ≡ false → (x : ℕ) → landing w m y x c ≡ []
  unfolding landing lands laying
  gone h x = by-none w y x c (y + s.y) (col_to m c x) (ref_offset m c) has-moved at_y h

  -- it is in reach
  pub there : near 0 w.top.0 w.bottom.0 y (y + s.y) ≡ true → (x : ℕ)
      → landing w m y x c ≡ stamp w (w.part + (y + s.y - 256) % 16 * w.stride.0) s.x (apart_by c den) x
  unfolding landing lands laying
  there h x = by-stamp w y x c (y + s.y) s.x den has-moved at_y (at_x x) (sym t.is) h

-- one column of a run
module _ (w : Window) (row d : ℕ) (c : Cell) (x : ℕ) (l : List ℕ) where
  pub stamped : near 8 w.left.0 w.right.0 x (x + d) ≡ true → {t : List ℕ} → t ≡ put l (5 * (row + (x + d - 256))) (cell_bytes c) → t ≡ run (stamp w row d c x) l
  unfolding stamp run
  stamped h e = rw h e

  pub unstamped : near 8 w.left.0 w.right.0 x (x + d) ≡ false → l ≡ run (stamp w row d c x) l
  unfolding stamp run
  unstamped h = rw h

-- a column of which nothing is laid
pub skipped : (f : ℕ → List Patch) (x : ℕ) (l : List ℕ) → f x ≡ [] → l ≡ run (span f x (x + 1)) l
unfolding run
skipped f x l h = ap (λ (p : List Patch). run p l) (sym (one f x ∙ h))

-- a run of like cells
module _ (cells : ℕ → Cell) (w : Window) (m : Motion) (y : ℕ) {x end r : ℕ} {c : Cell} (u : Run cells x end c r) (l : List ℕ) where
  pub run-gone : ((i : ℕ) → landing w m y i c ≡ []) → l ≡ run (span (lane cells w m y) x r) l
  unfolding lane run
  run-gone h =
      ap (λ (p : List Patch). run p l) (sym (nil (lane cells w m y) x r (λ i a b. ap (landing w m y i) (u.alike i a b) ∙ h i)))

  pub run-there : (f : ℕ → List Patch) → ((i : ℕ) → landing w m y i c ≡ f i) → {t : List ℕ} → t ≡ run (span f x r) l → t ≡ run (span (lane cells w m y) x r) l
  unfolding lane
  run-there f h e =
      e ∙ ap (λ (p : List Patch). run p l) (sym (alike (lane cells w m y) f x r (λ i a b. ap (landing w m y i) (u.alike i a b) ∙ h i)))

-- one cell of a clearing
pub wiped-one : (w : Window) (y q : ℕ) (l : List ℕ) {t : List ℕ} → t ≡ put l (5 * (w.part + y % 16 * w.stride.0 + q)) (mv_bytes invalid) → t ≡ run (wipe w y q) l
unfolding wipe spot run
wiped-one w y q l e = e

-- what well-formedness tells of a cell that is not absent
pub saved-ref : (c : Cell) → well_saved c ≡ true → saved_absent c ≡ false → from_to (pos 1) (pos 7) c.reference.0 ≡ true
unfolding well_saved
saved-ref c h a = (both (from_to (pos 1) (pos 7) c.reference.0) (within 4095 c.mv) (sym (or_off a) ∙ h)).0

pub saved-near : (c : Cell) → well_saved c ≡ true → saved_absent c ≡ false → Within 4095 c.mv
saved-near c h a = (saved-moves c h a).near
