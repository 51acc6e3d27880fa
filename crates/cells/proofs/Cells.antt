-- Cells by field, in a buffer, and what their tests tell.
-- Assumes nothing.
use mathlib.Core.Path.{◌≡◌, sym, ap, ap₂, ◌∙◌}
use mathlib.Core.Logic.{◌⊎◌, ⊎_elim}
use mathlib.Core.Bool.{true, false, and-eq-true_iff}
use mathlib.Core.List.{List}
use Prim.Native.Nat.{ℕ, ◌+◌, ◌*◌, ◌^◌, ◌≤◌, ◌<◌}
use native.Mathlib.Omega.{arith}
use lib.IntN.{ℤ, pos}
use lib.ListN.{length}
use lib.Signed.{mag}
use Rattle.ground.specs.Put.{put}
use Rattle.ground.specs.Sign.{from_to}
use Rattle.ground.specs.Twos.{twos8, byte_of}
use Rattle.ground.proofs.Puts.{put-append, put-length, put-outside}
use Rattle.ground.proofs.Picks.{or_off}
use Rattle.ground.proofs.Bits.{byte-back}
use Rattle.ground.proofs.Signs.{from_is, from-to-most}
use Rattle.vector.specs.Vector.{Within, within, mv_bytes}
use Rattle.vector.specs.declared.mv.Mv.{Mv}
use Rattle.vector.proofs.Vectors.{Fits, mv-back, mv-outside, within-is}
use Rattle.cells.specs.Cell.{cell_at, cell_bytes, saved_absent, projected_absent, well_saved, well_projected}
use Rattle.cells.specs.declared.cell.Cell.{Cell}

-- a cell whose fields are
pub cell : {v u : Mv} {r s : ℤ} → v ≡ u → r ≡ s → ◌≡◌ {A = Cell} (record { mv = v; reference = record { 0 = r } }) (record { mv = u; reference = record { 0 = s } })
cell e f = ap₂ (λ v r. record { mv = v; reference = record { 0 = r } }) e f

-- bytes laid elsewhere leave a cell
pub cell-outside : (l : List ℕ) (j : ℕ) (bs : List ℕ) (i : ℕ) → (5 * i + 5 ≤ j) ⊎ (j + length bs ≤ 5 * i) → cell_at (put l j bs) i ≡ cell_at l i
unfolding cell_at
cell-outside l j bs i h =
    cell (mv-outside l j bs (5 * i) (⊎_elim (λ p. ◌⊎◌.inl (omega arith)) (λ p. ◌⊎◌.inr (omega arith)) h))
    (ap twos8 (put-outside l j bs (5 * i + 4) 0 (⊎_elim (λ p. ◌⊎◌.inl (omega arith)) (λ p. ◌⊎◌.inr (omega arith)) h)))

-- a cell that was laid down, and read again
pub cell-back : (l : List ℕ) (i : ℕ) (c : Cell) → 5 * i + 5 ≤ length l → Fits c.mv → mag c.reference.0 < 2 ^ 7 → cell_at (put l (5 * i) (cell_bytes c)) i ≡ c
unfolding cell_at
cell-back l i c h f r =
    let m = put l (5 * i) (mv_bytes c.mv) in
    let n : length m ≡ length l = put-length l (5 * i) (mv_bytes c.mv) in
    rw (put-append l (5 * i) (mv_bytes c.mv) (byte_of c.reference.0))
    (cell (mv-outside m (5 * i + 4) (byte_of c.reference.0) (5 * i) (◌⊎◌.inl (omega arith)) ∙ mv-back l (5 * i) c.mv (omega arith) f)
    (byte-back m (5 * i + 4) c.reference.0 (omega arith) r))

-- a vector within ±4,095, and a reference or a distance n of 1..most
pub record Moves (most : ℕ) (c : Cell) : Type 0 where
  pub n : ℕ
  pub is : c.reference.0 ≡ pos n
  pub some : 1 ≤ n
  pub few : n ≤ most
  pub near : Within 4095 c.mv

moves : (most : ℕ) (c : Cell) → from_to (pos 1) (pos most) c.reference.0 ≡ true → within 4095 c.mv ≡ true → Moves most c
moves most c t w =
    let f = from_is 1 (pos most) c.reference.0 t in
    record {
      n = f.n;
      is = f.is;
      some = f.low;
      few = from-to-most (pos 1) most f.n (ap (from_to (pos 1) (pos most)) (sym f.is) ∙ t);
      near = (within-is 4095 c.mv).1 w;
    }

-- a well formed cell that is not absent
pub saved-moves : (c : Cell) → well_saved c ≡ true → saved_absent c ≡ false → Moves 7 c
unfolding well_saved
saved-moves c t a =
    let h = (and-eq-true_iff (from_to (pos 1) (pos 7) c.reference.0) (within 4095 c.mv)).0 (sym (or_off a) ∙ t) in
    moves 7 c h.0 h.1

pub projected-moves : (c : Cell) → well_projected c ≡ true → projected_absent c ≡ false → Moves 31 c
unfolding well_projected
projected-moves c t a =
    let h = (and-eq-true_iff (within 4095 c.mv) (from_to (pos 1) (pos 31) c.reference.0)).0 (sym (or_off a) ∙ t) in
    moves 31 c h.1 h.0
