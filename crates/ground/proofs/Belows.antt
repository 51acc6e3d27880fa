-- All numbers below n pass a test: what a loop over an array carries, and what a caller takes from it.
-- Assumes nothing.
use mathlib.Core.Path.{◌≡◌, refl, sym, ap, ◌∙◌}
use mathlib.Core.Bool.{Bool, true, false, and-eq-true_iff}
use Prim.Native.Nat.{ℕ, zero, suc, ◌+◌, ◌≤◌, ◌<◌}
use native.Mathlib.Numerals.{add-one}
use native.Mathlib.Omega.{arith}
use Rattle.ground.specs.Below.{all_below}
use Rattle.ground.proofs.Picks.{and-on}
use Rattle.ground.proofs.Diffs.{Which, more, less, which}

module _ (t : ℕ → Bool) where
  pub none : all_below 0 t ≡ true
  unfolding all_below
  none = refl

  pub one_more : (n : ℕ) → all_below n t ≡ true → t n ≡ true → all_below (suc n) t ≡ true
  unfolding all_below
  one_more n h e = and-on h ∙ e

  -- any one of them passes
  pub at : (n i : ℕ) → all_below n t ≡ true → i < n → t i ≡ true
  unfolding all_below
  at zero i h l = absurd (omega arith)
  at (suc n) i h l = let p = (and-eq-true_iff (all_below n t) (t n)).0 h in by (which i n) (at n i p.0) p.1
    where
      by : Which i n → (i < n → t i ≡ true) → t n ≡ true → t i ≡ true
      by (less k) before last = before k
      by (more k) before last = let e : i ≡ n = omega arith in ap t e ∙ last

  -- one that fails is enough
  pub one-fails : (n i : ℕ) → i < n → t i ≡ false → all_below n t ≡ false
  one-fails n i l e = by (all_below n t) (λ h. at n i h l)
    where
      by : (b : Bool) → (b ≡ true → t i ≡ true) → b ≡ false
      by true h = sym (h refl) ∙ e
      by false h = refl

-- as code counts
pub up : (t : ℕ → Bool) (i : ℕ) → all_below (suc i) t ≡ true → all_below (i + 1) t ≡ true
up t i h = rw add-one h

pub done : (t : ℕ → Bool) (i n : ℕ) → n ≤ i → i ≤ n → all_below i t ≡ true → all_below n t ≡ true
done t i n l g h = let e : n ≡ i = omega arith in ap (λ (m : ℕ). all_below m t) e ∙ h

pub all_of : (t : ℕ → Bool) (n : ℕ) → ((i : ℕ) → i < n → t i ≡ true) → all_below n t ≡ true
all_of t zero h = none t
all_of t (suc n) h = one_more t n (all_of t n (λ i l. h i (omega arith))) (h n (omega arith))
