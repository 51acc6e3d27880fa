-- The map of compound contexts, row by row as code computes it: a test that the checker runs over each row, once.
-- Assumes nothing.
use mathlib.Core.Path.{◌≡◌, refl, sym, ap, ◌∙◌}
use mathlib.Core.Bool.{Bool, true, false}
use mathlib.Core.List.{[]}
use Prim.Native.Nat.{ℕ, ◌+◌, ◌/◌, ◌≤◌, ◌<◌, min}
use native.Mathlib.Omega.{arith}
use lib.Dec.{eqb}
use lib.ListN.{get_or}
use borrow.Author.Tests.{eqb-true, ne_eqb}
use Rattle.ground.specs.Pick.{pick}
use Rattle.ground.specs.Below.{all_below}
use Rattle.ground.proofs.Belows.{at}
use Rattle.frame.specs.hints.Distances.{flag_of}
use Rattle.search.specs.front.Context.{compound_map, compound_context}

-- a flag, as a call has answered it
pub flag-most : {r : ℕ} (b : Bool) → r ≡ flag_of b → r ≤ 1
flag-most true e = omega arith
flag-most false e = omega arith

abbrev entry : (k n : ℕ) → ℕ
entry k n = get_or (get_or compound_map k []) (min n 4) 0

module _ (k : ℕ) (f : ℕ → ℕ) (r n : ℕ) (h : n ≤ 5) where
  in-row : all_below 6 (λ i. eqb (f i) (entry k i)) ≡ true → r / 2 ≡ k → f n ≡ compound_context r n
  unfolding compound_context
  in-row t e = eqb-true (f n) (entry k n) (at (λ i. eqb (f i) (entry k i)) 6 n t (omega arith)) ∙ ap (λ (j : ℕ). entry j n) (sym e)

pub low-row : (r n : ℕ) → r < 2 → n ≤ 5 → min n 1 ≡ compound_context r n
unfolding all_below
low-row r n l h = in-row 0 (λ i. min i 1) r n h refl (omega arith)

pub middle-row : (r n : ℕ) → 2 ≤ r → r < 4 → n ≤ 5 → 1 + min n 3 ≡ compound_context r n
unfolding all_below
middle-row r n l g h = in-row 1 (λ i. 1 + min i 3) r n h refl (omega arith)

high : ℕ → ℕ
high i = pick (eqb i 0) 4 (3 + min i 4)

high-all : (r n : ℕ) → 4 ≤ r → r ≤ 5 → n ≤ 5 → high n ≡ compound_context r n
unfolding all_below high
high-all r n l g h = in-row 2 high r n h refl (omega arith)

pub high-first : (r n : ℕ) → 4 ≤ r → r ≤ 5 → n ≡ 0 → 4 ≡ compound_context r n
unfolding high
high-first r n l g e = rw e (high-all r 0 l g (omega arith))

pub high-row : (r n : ℕ) → 4 ≤ r → (r ≤ 5) × (n ≤ 5) → (n ≡ 0 → ⊥) → 3 + min n 4 ≡ compound_context r n
unfolding high
high-row r n l g e = sym (ap (λ (b : Bool). pick b 4 (3 + min n 4)) (ne_eqb n 0 e)) ∙ high-all r n l g.0 g.1
