-- Vectors by component: when two are equal, ranges, and the bytes read again.
-- Assumes nothing.
use mathlib.Core.Path.{◌≡◌, refl, ap, ap₂, ◌∙◌}
use mathlib.Core.Logic.{◌↔◌, ◌⊎◌, ⊎_elim}
use mathlib.Core.Bool.{◌&&◌, true, and-eq-true_iff}
use mathlib.Core.List.{List}
use Prim.Native.Nat.{ℕ, ◌+◌, ◌^◌, ◌≤◌, ◌<◌}
use native.Mathlib.Omega.{arith}
use lib.Dec.{leb}
use lib.IntN.{ℤ, nat_abs}
use borrow.Author.Tests.{le-leb, leb-true}
use lib.ListN.{length}
use lib.Signed.{mag}
use Rattle.std.proofs.Common.{int_eq}
use Rattle.ground.specs.Put.{put}
use Rattle.ground.specs.Sign.{eq_z}
use Rattle.ground.specs.Twos.{half_of}
use Rattle.ground.proofs.Puts.{put-append, put-length}
use Rattle.ground.proofs.Bits.{int_eq-is, eq_z-is, half-outside, half_back}
use Rattle.vector.specs.Vector.{Within, within, eq_mv, mv_at, mv_bytes}
use Rattle.vector.specs.declared.mv.Mv.{Mv}

-- a vector whose components are
pub vector : {y x a b : ℤ} → y ≡ a → x ≡ b → ◌≡◌ {A = Mv} (record { y = y; x = x }) (record { y = a; x = b })
vector e e' = ap₂ (λ y x. record { y = y; x = x }) e e'

-- what `==` says of two vectors
pub eq-is : (u v : Mv) → (int_eq u.y v.y && int_eq u.x v.x) ≡ eq_mv u v
unfolding eq_mv
eq-is u v = rw (int_eq-is u.y v.y, int_eq-is u.x v.x)

-- the test of equality passes exactly where two vectors are one
pub eq_mv-is : (u v : Mv) → u ≡ v ↔ eq_mv u v ≡ true
unfolding eq_mv
eq_mv-is u v = (
  λ e. ap (λ (w : Mv). eq_mv w v) e ∙ (and-eq-true_iff (eq_z v.y v.y) (eq_z v.x v.x)).1 ((eq_z-is v.y v.y).0 refl, (eq_z-is v.x v.x).0 refl),
  λ t.
      let h = (and-eq-true_iff (eq_z u.y v.y) (eq_z u.x v.x)).0 t in
      vector ((eq_z-is u.y v.y).1 h.0) ((eq_z-is u.x v.x).1 h.1),
)

-- the test of a range, and the range
pub within-is : (m : ℕ) (v : Mv) → Within m v ↔ within m v ≡ true
unfolding within
within-is m v = (
  λ w. (and-eq-true_iff (leb (nat_abs v.y) m) (leb (nat_abs v.x) m)).1 (le-leb _ _ w.y, le-leb _ _ w.x),
  λ t.
      let h = (and-eq-true_iff (leb (nat_abs v.y) m) (leb (nat_abs v.x) m)).0 t in
      record { y = leb-true (nat_abs v.y) m h.0; x = leb-true (nat_abs v.x) m h.1 },
)

-- bytes laid elsewhere leave a vector
pub mv-outside : (l : List ℕ) (j : ℕ) (bs : List ℕ) (i : ℕ) → (i + 4 ≤ j) ⊎ (j + length bs ≤ i) → mv_at (put l j bs) i ≡ mv_at l i
mv-outside l j bs i h =
    vector (half-outside l j bs i (⊎_elim (λ p. ◌⊎◌.inl (omega arith)) (λ p. ◌⊎◌.inr (omega arith)) h))
    (half-outside l j bs (i + 2) (⊎_elim (λ p. ◌⊎◌.inl (omega arith)) (λ p. ◌⊎◌.inr (omega arith)) h))

-- both components are numbers of 16 bits, as those of every `Mv` in code are
pub record Fits (v : Mv) : Type 0 where
  pub y : mag v.y < 2 ^ 15
  pub x : mag v.x < 2 ^ 15

-- a vector that was laid down, and read again
pub mv-back : (l : List ℕ) (i : ℕ) (v : Mv) → i + 4 ≤ length l → Fits v → mv_at (put l i (mv_bytes v)) i ≡ v
mv-back l i v h f =
    let m = put l i (half_of v.y) in
    let n : length m ≡ length l = put-length l i (half_of v.y) in
    rw (put-append l i (half_of v.y) (half_of v.x))
    (vector (half-outside m (i + 2) (half_of v.x) i (◌⊎◌.inl (omega arith)) ∙ half_back l i v.y (omega arith) f.y)
    (half_back m (i + 2) v.x (omega arith) f.x))
