-- Lists made by a rule: their elements, their length, and two rules that say the same.
-- Assumes nothing.
use mathlib.Core.Path.{◌≡◌, refl, sym, ap, ◌∙◌}
use mathlib.Core.List.{List}
use Prim.Native.Nat.{ℕ, zero, suc, ◌+◌, ◌≤◌, ◌<◌}
use native.Mathlib.Nat.{zero-add, lt_irrefl}
use native.Mathlib.Omega.{arith}
use lib.ListN.{length, get_or}
use lib.Seq.{ext_get_or}
use Rattle.ground.specs.Tab.{tab}

pub tab-at : {A : Type 0} (f : ℕ → A) (d : A) (from n k : ℕ) → k < n → get_or (tab f from n) k d ≡ f (from + k)
unfolding tab
tab-at f d from zero k h = absurd (lt_irrefl k (omega arith))
tab-at f d from (suc n) zero h = ap f (omega arith)
tab-at f d from (suc n) (suc k) h = tab-at f d (suc from) n k (omega arith) ∙ ap f (omega arith)

pub tab-length : {A : Type 0} (f : ℕ → A) (i n : ℕ) → length (tab f i n) ≡ n
unfolding tab
tab-length f i zero = refl
tab-length f i (suc n) = ap suc (tab-length f (suc i) n)

pub tab-cong : {A : Type 0} (f g : ℕ → A) (i n : ℕ) → ((k : ℕ) → i ≤ k → k < i + n → f k ≡ g k) → tab f i n ≡ tab g i n
unfolding tab
tab-cong f g i zero h = refl
tab-cong f g i (suc n) h =
    rw (h i (omega arith) (omega arith), tab-cong f g (suc i) n (λ k a b. h k (omega arith) (omega arith)))

pub tab-all : {A : Type 0} (d : A) (xs : List A) (n : ℕ) → length xs ≡ n → tab (λ i. get_or xs i d) 0 n ≡ xs
tab-all d xs n e =
    ext_get_or d (tab (λ i. get_or xs i d) 0 n) xs (tab-length (λ i. get_or xs i d) 0 n ∙ sym e)
    (λ i h. tab-at (λ i. get_or xs i d) d 0 n i (rw tab-length at h) ∙ ap (λ (k : ℕ). get_or xs k d) (zero-add i))
