-- A test of each element, as std's methods say it and as the definitions do, and lists made from a function of the index.
-- Assumes nothing.
use mathlib.Core.Path.{◌≡◌, refl, sym, ap, ◌∙◌}
use mathlib.Core.Bool.{Bool, true, false, ◌&&◌}
use mathlib.Core.List.{List, [], ◌∷◌}
use Prim.Native.Nat.{ℕ, zero, suc, ◌<◌, ◌^◌}
use lib.Bits.{bit_or}
use lib.Dec.{ltb}
use lib.ListN.{length, get_or}
use lib.Pow.{pow_pos}
use borrow.Author.Tests.{lt-ltb}
use Rattle.std.specs.List.{fold, list_all}
use Rattle.std.proofs.lemmas.List.FromFn.{fill_by_all}
use Rattle.ground.specs.Below.{all_below}
use Rattle.frame.specs.hints.Description.{under}
use Rattle.frame.specs.hints.Distances.{seven}
use Rattle.frame.proofs.hints.Shorts.{or-fits}

grouped : (a b c : Bool) → (a && (b && c)) ≡ (a && b && c)
grouped true b c = refl
grouped false b c = refl

alone : (a : Bool) → (a && true) ≡ a
alone true = refl
alone false = refl

first : (t : ℕ → Bool) (n : ℕ) → (t 0 && all_below n (λ i. t (suc i))) ≡ all_below (suc n) t
unfolding all_below
first t zero = alone (t 0)
first t (suc n) = grouped (t 0) (all_below n (λ i. t (suc i))) (t (suc n)) ∙ ap (λ b. b && t (suc n)) (first t n)

counted : {A : Type 0} (t : A → Bool) (d : A) (xs : List A) → list_all t xs ≡ all_below (length xs) (λ i. t (get_or xs i d))
unfolding all_below
counted t d [] = refl
counted t d (x ∷ xs) = ap (λ b. t x && b) (counted t d xs) ∙ first (λ i. t (get_or (x ∷ xs) i d)) (length xs)

pub each : {A : Type 0} (t : A → Bool) (d : A) (n : ℕ) (xs : List A) → length xs ≡ n → list_all t xs ≡ all_below n (λ i. t (get_or xs i d))
each t d n xs e = counted t d xs ∙ ap (λ (m : ℕ). all_below m (λ i. t (get_or xs i d))) e

pub under-is : (limit : ℕ) (xs : List ℕ) → list_all (λ x. ltb x limit) xs ≡ under xs limit
unfolding under
under-is limit xs = counted (λ x. ltb x limit) 0 xs

-- bytes one after the other: what all have together is as short as the longest of them
together : (k t : ℕ) (xs : List ℕ) → ltb (fold bit_or t xs) (2 ^ k) ≡ (ltb t (2 ^ k) && list_all (λ x. ltb x (2 ^ k)) xs)
together k t [] = sym (alone (ltb t (2 ^ k)))
together k t (x ∷ xs) =
    together k (bit_or t x) xs
    ∙ ap (λ b. b && list_all (λ y. ltb y (2 ^ k)) xs) (or-fits k t x)
    ∙ sym (grouped (ltb t (2 ^ k)) (ltb x (2 ^ k)) (list_all (λ y. ltb y (2 ^ k)) xs))

pub together-all : (k : ℕ) (xs : List ℕ) → ltb (fold bit_or 0 xs) (2 ^ k) ≡ under xs (2 ^ k)
together-all k xs = together k 0 xs ∙ ap (λ b. b && list_all (λ x. ltb x (2 ^ k)) xs) (lt-ltb 0 (2 ^ k) (pow_pos k)) ∙ under-is (2 ^ k) xs

pub seven-is : {A : Type 0} (f : ℕ → A) (xs : List A) → length xs ≡ 7 → ((k : ℕ) → k < 7 → get_or xs k (f 0) ≡ f k) → xs ≡ seven f
seven-is f xs n h = fill_by_all f xs 7 (f 0) n h
