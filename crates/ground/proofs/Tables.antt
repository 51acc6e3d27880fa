-- A rule of a table, proved at all of its entries by one test that the checker computes, one entry after the other. Over any type of entry.
-- Assumes nothing.
use mathlib.Core.Path.{◌∙◌, subst, sym}
use mathlib.Core.Bool.{Bool, true, false, ◌&&◌}
use mathlib.Core.List.{List, [], ◌∷◌}
use Prim.Native.Nat.{ℕ, zero, suc, ◌+◌, ◌<◌}
use native.Mathlib.Nat.{add-zero, zero-add, add-suc, suc-add, le_of_suc-le-suc, not-suc-le-zero}
use lib.Dec.{T}
use lib.ListN.{length, get_or}

left : (a b : Bool) → T (a && b) → T a
left true b t = tt
left false b t = t

right : (a b : Bool) → T (a && b) → T b
right true b t = t
right false b t = absurd t

-- the test f passes at each entry of the list and its place, counted from i
abbrev pub every : {A : Type 0} → (ℕ → A → Bool) → ℕ → List A → Bool
every f i [] = true
every f i (x ∷ xs) = f i x && every f (suc i) xs

module _ {A : Type 0} (f : ℕ → A → Bool) (d : A) where
  from : (xs : List A) (i : ℕ) → T (every f i xs) → (k : ℕ) → k < length xs → T (f (i + k) (get_or xs k d))
  from [] i t k h = absurd (not-suc-le-zero h)
  from (x ∷ xs) i t zero h = subst (λ (m : ℕ). T (f m x)) (sym (add-zero i)) (left (f i x) (every f (suc i) xs) t)
  from (x ∷ xs) i t (suc k) h =
      subst (λ (m : ℕ). T (f m (get_or xs k d))) (suc-add i k ∙ sym (add-suc i k))
      (from xs (suc i) (right (f i x) (every f (suc i) xs) t) k (le_of_suc-le-suc h))

  -- at an entry
  pub at : (xs : List A) → T (every f 0 xs) → (k : ℕ) → k < length xs → T (f k (get_or xs k d))
  at xs t k h = subst (λ (m : ℕ). T (f m (get_or xs k d))) (zero-add k) (from xs 0 t k h)

-- at any number, where what stands past the end passes too
pub anywhere : {A : Type 0} (f : A → Bool) (d : A) → T (f d) → (xs : List A) (i : ℕ) → T (every (λ _. f) i xs) → (k : ℕ) → T (f (get_or xs k d))
anywhere f d past [] i t k = past
anywhere f d past (x ∷ xs) i t zero = left (f x) (every (λ _. f) (suc i) xs) t
anywhere f d past (x ∷ xs) i t (suc k) = anywhere f d past xs (suc i) (right (f x) (every (λ _. f) (suc i) xs) t) k
