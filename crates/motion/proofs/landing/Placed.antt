-- Places counted from 256 up say the same as the standard's signed places.
-- Assumes nothing.
use mathlib.Core.Path.{◌≡◌, sym, ap, ap₂, ◌∙◌}
use mathlib.Core.Bool.{Bool, true, false, not, ◌&&◌, beq}
use Prim.Native.Nat.{ℕ, suc, ◌+◌, ◌-◌, ◌/◌, ◌≤◌, ◌<◌, zero-le}
use native.Mathlib.Omega.{arith}
use lib.Dec.{leb, ltb}
use lib.IntN.{ℤ, pos, negsuc, neg_ℤ, ◌+ℤ◌, sub_ℕ, nat_abs}
use lib.Signed.{lt_z, le_z}
use borrow.Author.Tests.{le-ltb, leb-true, ltb-true}
use Rattle.ground.specs.Pick.{pick}
use Rattle.ground.specs.Sign.{below}
use Rattle.ground.proofs.Diffs.{as-more, as-pos, as-neg, add, neg, diff, test, test-most}
use Rattle.ground.proofs.Picks.{both}
use Rattle.motion.specs.landing.Lands.{moved, group, reaches}
use Rattle.motion.specs.Code.Places.{shift, near}

-- forwards and backwards by m
ahead : (v m : ℕ) → pos v +ℤ pos m ≡ sub_ℕ (v + (256 + m)) 256
ahead v m = ap₂ (λ (y z : ℤ). y +ℤ z) (as-pos v) (as-pos m) ∙ add v 0 m 0 ∙ diff (v + m) 0 (v + (256 + m)) 256 (omega arith)

back_by : (v m : ℕ) → m ≤ 255 → pos v +ℤ neg_ℤ (pos m) ≡ sub_ℕ (v + (256 - m)) 256
back_by v m h =
    ap₂ (λ (y z : ℤ). y +ℤ z) (as-pos v) (as-neg m) ∙ add v 0 0 m ∙ diff (v + 0) (0 + m) (v + (256 - m)) 256 (omega arith)

twice : (m : ℕ) → neg_ℤ (neg_ℤ (pos m)) ≡ pos m
twice m = ap neg_ℤ (as-neg m) ∙ neg 0 m ∙ sym (as-pos m)

-- a place moved, counted from 256 up
pub moved-is : (back : Bool) (o : ℤ) (v : ℕ) → nat_abs o ≤ 16383 → moved back o v ≡ sub_ℕ (v + shift back o) 256
unfolding moved shift
moved-is false (pos n) v h =
    ahead v (n / 64) ∙ sym (ap (λ (b : Bool). sub_ℕ (v + pick (not (beq b false)) (256 - n / 64) (256 + n / 64)) 256) (le-ltb n 0 zero-le))
moved-is true (pos n) v h =
    back_by v (n / 64) (omega arith)
    ∙ sym (ap (λ (b : Bool). sub_ℕ (v + pick (not (beq b true)) (256 - n / 64) (256 + n / 64)) 256) (le-ltb n 0 zero-le))
moved-is false (negsuc n) v h = back_by v (suc n / 64) (omega arith)
moved-is true (negsuc n) v h = ap (λ (z : ℤ). pos v +ℤ z) (twice (suc n / 64)) ∙ ahead v (suc n / 64)

-- the reach of a place
pub reaches-is : (slack start end v p : ℕ) → reaches slack start end v (sub_ℕ p 256) ≡ near slack start end v p
unfolding reaches near
reaches-is slack start end v p = ap₂ ◌&&◌ (ap₂ ◌&&◌ from to) (ap₂ ◌&&◌ first last)
  where
    from : le_z (sub_ℕ (group v) slack) (sub_ℕ p 256) ≡ leb (group v + 256) (p + slack)
    from = test-most (group v) slack p 256

    to : lt_z (sub_ℕ p 256) (pos (group v + 8 + slack)) ≡ ltb p (group v + 264 + slack)
    to =
        let a : p + 0 ≡ p = omega arith in
        let b : group v + 8 + slack + 256 ≡ group v + 264 + slack = omega arith in
        ap (lt_z (sub_ℕ p 256)) (as-pos (group v + 8 + slack)) ∙ test p 256 (group v + 8 + slack) 0 ∙ ap₂ ltb a b

    first : le_z (pos start) (sub_ℕ p 256) ≡ leb (start + 256) p
    first =
        let a : p + 0 ≡ p = omega arith in
        ap (λ (z : ℤ). le_z z (sub_ℕ p 256)) (as-pos start) ∙ test-most start 0 p 256 ∙ ap (leb (start + 256)) a

    last : lt_z (sub_ℕ p 256) (pos end) ≡ ltb p (end + 256)
    last =
        let a : p + 0 ≡ p = omega arith in
        ap (lt_z (sub_ℕ p 256)) (as-pos end) ∙ test p 256 end 0 ∙ ap (λ (n : ℕ). ltb n (end + 256)) a

-- what it tells
pub record In (slack start end v p : ℕ) : Type 0 where
  pub from : group v + 256 ≤ p + slack
  pub to : p < group v + 264 + slack
  pub first : start + 256 ≤ p
  pub last : p < end + 256

pub near-in : (slack start end v p : ℕ) → near slack start end v p ≡ true → In slack start end v p
unfolding near
near-in slack start end v p h =
    let s = both (leb (group v + 256) (p + slack) && ltb p (group v + 264 + slack)) (leb (start + 256) p && ltb p (end + 256)) h in
    let t = both (leb (group v + 256) (p + slack)) (ltb p (group v + 264 + slack)) s.0 in
    let u = both (leb (start + 256) p) (ltb p (end + 256)) s.1 in
    record { from = leb-true _ _ t.0; to = ltb-true _ _ t.1; first = leb-true _ _ u.0; last = ltb-true _ _ u.1 }

-- a place that isn't before 256, as a row or a column
pub as_place : (p : ℕ) → 256 ≤ p → nat_abs (sub_ℕ p 256) ≡ p - 256
as_place p h = ap nat_abs (as-more p 256 h)

-- what code puts together from a sign and a magnitude
pub shift_is : (back : Bool) {s : Bool} {a : ℕ} {u o : ℤ} → s ≡ below u → a ≡ nat_abs u → u ≡ o
    → pick (not (beq s back)) (256 - a / 64) (256 + a / 64) ≡ shift back o
unfolding shift
shift_is back e f g = rw (e, f, g)
