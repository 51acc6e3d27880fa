-- Numbers from 0 on, and a list's first elements, as the library goes through them: a check of each, and an array made of what a
-- rule gives at each number.
-- Assumes nothing.
use mathlib.Core.Path.{◌≡◌, refl, sym, ap, ◌∙◌}
use mathlib.Core.Bool.{Bool, true, false}
use mathlib.Core.List.{List}
use Prim.Native.Nat.{ℕ, zero, suc, ◌+◌, ◌≤◌, ◌<◌}
use native.Mathlib.Nat.{add-zero, zero-add}
use denote.Ref.{Bor}
use native.Mathlib.Omega.{arith}
use lib.ListN.{length, get_or, take}
use lib.Seq.{ext_get_or}
use denote.Param.Members.{Called, Mut}
use Rattle.std.specs.Bool.{MatchBool}
use Rattle.std.specs.Array.{IsFromFnResult, IsFromFnResultFrom}
use Rattle.std.specs.Iterator.{ChecksAll}
use Rattle.std.specs.List.{AllWithin, HoldsAt, range_with_len}
use Rattle.std.specs.Slice.Iter.{iter_rest}
use Rattle.std.specs.declared.ops.Range.{Range}
use Rattle.std.specs.declared.slice.Iter.{Iter}
use Rattle.std.proofs.lemmas.List.{get_or-take, length-take-le}
use Rattle.std.proofs.iter.Yields.{nat_range_steps, fronts}
use Rattle.std.proofs.lemmas.Iterator.{YieldsList-from_range, YieldsList-from_slice, cases_from_all}
use Rattle.std.proofs.lemmas.List.FromFn.{length-range_with_len, get_or-range_with_len}
use Rattle.ground.specs.Below.{all_below}
use Rattle.ground.proofs.Belows.{all_of, one-fails}
use Rattle.ground.specs.Tab.{tab}
use Rattle.ground.proofs.Tabs.{tab-at, tab-length}

-- each number below n passes, or one doesn't
below-range : (n : ℕ) (t : ℕ → Bool) (r : Bool)
    → MatchBool r (AllWithin (λ i. t i ≡ true) (range_with_len 0 n) 0 (length (range_with_len 0 n)))
    ((k : ℕ) × (k < length (range_with_len 0 n)) × HoldsAt (λ i. t i ≡ false) (range_with_len 0 n) k)
    → r ≡ all_below n t
below-range n t true h = sym (all_of t n (λ i l. ap t (sym (get_or-range_with_len 0 n i 0 l ∙ zero-add i)) ∙ h i 0 (omega arith) (omega (arith, length-range_with_len 0 n))))
below-range n t false (k, l, e) =
    let m : k < n = omega (arith, length-range_with_len 0 n) in
    sym (one-fails t n k m (ap t (sym (get_or-range_with_len 0 n k 0 m ∙ zero-add k)) ∙ e 0))

-- `(0..n).all(..)`, of a closure that answers t
pub range-all : {F : Type 0} {g : Mut F (ℕ × Unit {0}) Bool} {f : F} {u : Range ℕ} {r : Bool} (n : ℕ) (t : ℕ → Bool)
    → ChecksAll nat_range_steps g (record { start = 0; end = n }) f r u
    → ((x : ℕ) (q : F) → Called g f (x, tt) true q → (q ≡ f) × (t x ≡ true))
    → ((x : ℕ) (q : F) → Called g f (x, tt) false q → t x ≡ false)
    → r ≡ all_below n t
range-all {f = f} {u = u} {r = r} n t ran pass fail =
    below-range n t r (cases_from_all u f r (λ i. t i ≡ true) (λ i. t i ≡ false) ran (YieldsList-from_range 0 n n refl (omega arith)) pass fail)

-- `xs[..n].iter().all(..)`, of a closure that answers t
module _ {X : Type 0} (n : ℕ) (xs : List X) (d : X) (t : X → Bool) (fits : n ≤ length xs) where
  at-front : (k : ℕ) → k < n → get_or (take n xs) k d ≡ get_or xs k d
  at-front k l = get_or-take n xs k d l

  below-front : (r : Bool)
      → MatchBool r (AllWithin (λ x. t x ≡ true) (take n xs) 0 (length (take n xs)))
      ((k : ℕ) × (k < length (take n xs)) × HoldsAt (λ x. t x ≡ false) (take n xs) k)
      → r ≡ all_below n (λ i. t (get_or xs i d))
  below-front true h = sym (all_of (λ i. t (get_or xs i d)) n (λ i l. ap t (sym (at-front i l)) ∙ h i d (omega arith) (omega (arith, l, length-take-le n xs fits))))
  below-front false (k, l, e) =
      let m : k < n = omega (arith, l, length-take-le n xs fits) in
      sym (one-fails (λ i. t (get_or xs i d)) n k m (ap t (sym (at-front k m)) ∙ e d))

  pub slice-all : {F : Type 0} {g : Mut F (Bor X × Unit {0}) Bool} {f : F} {s u : Iter X} {r : Bool}
      → iter_rest s ≡ take n xs
      → ChecksAll fronts g s f r u
      → ((x : Bor X) (q : F) → Called g f (x, tt) true q → (q ≡ f) × (t x.now ≡ true))
      → ((x : Bor X) (q : F) → Called g f (x, tt) false q → t x.now ≡ false)
      → r ≡ all_below n (λ i. t (get_or xs i d))
  slice-all {f = f} {u = u} {r = r} rest ran pass fail =
      below-front r (cases_from_all u f r (λ x. t x ≡ true) (λ x. t x ≡ false) ran (YieldsList-from_slice (take n xs) rest) pass fail)

-- `array::from_fn(..)`, of a closure that answers f
module _ {C B : Type 0} {g : Mut C (ℕ × Unit {0}) B} {c : C} (ys : List B) (d : B) (f : ℕ → B) where
  each-made : (i n k : ℕ) → IsFromFnResultFrom g c ys i n
      → ((j : ℕ) (y : B) (q : C) → Called g c (j, tt) y q → (q ≡ c) × (y ≡ f j)) → k < n → get_or ys (i + k) d ≡ f (i + k)
  each-made i zero k r h l = absurd (omega arith)
  each-made i (suc n) zero (q, y, e, a, r) h l = rw add-zero (e.1 d ∙ (h i y q a).1)
  each-made i (suc n) (suc k) (q, y, e, a, r) h l =
      let m : i + suc k ≡ i + 1 + k = omega arith in
      rw m (each-made (i + 1) n k (rw (h i y q a).0 at r) h (omega arith))

  pub from-fn : (n : ℕ) → IsFromFnResult g c ys n
      → ((j : ℕ) (y : B) (q : C) → Called g c (j, tt) y q → (q ≡ c) × (y ≡ f j)) → ys ≡ tab f 0 n
  from-fn n r h =
      ext_get_or d ys (tab f 0 n) (r.long ∙ sym (tab-length f 0 n))
      (λ i l. let k : i < n = omega (arith, r.long) in
      ap (λ (j : ℕ). get_or ys j d) (sym (zero-add i)) ∙ each-made 0 n i r.each h k ∙ sym (tab-at f d 0 n i k))
