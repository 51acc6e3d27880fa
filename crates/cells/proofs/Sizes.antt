-- Every size is 1 to 32 units wide and high, and every code up to 21 has one: tests that the checker computes over the table, once. And what the `_`
-- of the match knows.
-- Assumes nothing.
use mathlib.Core.Path.{◌≡◌, refl, sym, ap, ◌∙◌, subst}
use mathlib.Core.Bool.{Bool, true, false, ◌&&◌, and-eq-true_iff, true≢false}
use Prim.Native.Nat.{ℕ, zero, suc, ◌≤◌}
use native.Mathlib.Omega.{arith}
use lib.Dec.{T, leb}
use borrow.Author.Tests.{leb-true}
use Rattle.std.proofs.Common.{Option, Some, None}
use Rattle.ground.specs.Below.{all_below}
use Rattle.ground.proofs.Belows.{at}
use Rattle.ground.proofs.Tables.{anywhere}
use Rattle.cells.specs.Size.{size_of, sizes}
use Rattle.cells.specs.declared.size.Dims.{Dims}

up_to32 : ℕ → Bool
up_to32 n = leb 1 n && leb n 32

narrowly : Option Dims → Bool
narrowly None = true
narrowly (Some d) = up_to32 d.w.0 && up_to32 d.h.0

every-narrow : (n : ℕ) → T (narrowly (size_of n))
unfolding size_of narrowly up_to32
every-narrow n = anywhere narrowly None tt sizes 0 tt n

is_true : (t : Bool) → T t → t ≡ true
is_true true h = refl
is_true false h = absurd h

-- the dimensions of a size
pub record Narrow (d : Dims) : Type 0 where
  pub some-w : 1 ≤ d.w.0
  pub few-w : d.w.0 ≤ 32
  pub some-h : 1 ≤ d.h.0
  pub few-h : d.h.0 ≤ 32

pub narrow : (n : ℕ) (d : Dims) → size_of n ≡ Some d → Narrow d
unfolding narrowly up_to32
narrow n d e =
    let t = is_true (narrowly (Some d)) (subst (λ (s : Option Dims). T (narrowly s)) e (every-narrow n)) in
    let h = (and-eq-true_iff (up_to32 d.w.0) (up_to32 d.h.0)).0 t in
    let w = (and-eq-true_iff (leb 1 d.w.0) (leb d.w.0 32)).0 h.0 in
    let g = (and-eq-true_iff (leb 1 d.h.0) (leb d.h.0 32)).0 h.1 in
    record {
      some-w = leb-true 1 d.w.0 w.0;
      few-w = leb-true d.w.0 32 w.1;
      some-h = leb-true 1 d.h.0 g.0;
      few-h = leb-true d.h.0 32 g.1;
    }

-- every code up to 21 has a size: a test that the checker computes over the codes, once
has-size : Option Dims → Bool
has-size (Some d) = true
has-size None = false

all-sized : all_below 22 (λ n. has-size (size_of n)) ≡ true
unfolding all_below has-size size_of
all-sized = refl

pub size_is : (code : ℕ) → code ≤ 21 → (d : Dims) × (size_of code ≡ Some d)
unfolding has-size
size_is code h = by (size_of code) refl (at (λ n. has-size (size_of n)) 22 code all-sized (omega arith))
  where
    by : (z : Option Dims) → size_of code ≡ z → has-size (size_of code) ≡ true → (d : Dims) × (size_of code ≡ Some d)
    by (Some d) e t = (d, e)
    by None e t = absurd (true≢false (sym t ∙ ap has-size e))

-- no key of a match on 0, 1, .., k - 1 is n: in the form in which the check hands it over
abbrev pub Miss : ℕ → ℕ → Type 0
Miss n zero = Unit
Miss n (suc k) = Miss n k × (n ≡ k → ⊥)

step : (n k : ℕ) → k ≤ n → (n ≡ k → ⊥) → suc k ≤ n
step n k h e = omega arith

pub miss : (n k : ℕ) → Miss n k → k ≤ n
miss n zero r = omega arith
miss n (suc k) r = step n k (miss n k r.0) r.1
