-- Sign and magnitude: a number is its magnitude with its sign, a product's sign is by the two signs, and a function of magnitudes that sends 0 to 0
-- keeps the sign.
-- Assumes nothing.
use mathlib.Core.Path.{◌≡◌, refl, sym, ap, ap₂, ◌∙◌}
use mathlib.Core.Bool.{Bool, true, false, cond, not, beq, true≢false, and-eq-true_iff}
use Prim.Native.Nat.{ℕ, zero, suc, ◌+◌, ◌*◌, ◌≤◌, zero-le, min}
use native.Mathlib.Nat.{mul-zero, zero-mul}
use native.Mathlib.Omega.{arith}
use lib.Dec.{ltb, leb}
use lib.IntN.{ℤ, pos, negsuc, neg_ℤ, sub_ℕ, nat_abs, ◌+ℤ◌, ◌*ℤ◌}
use lib.Signed.{lt_z, le_z}
use borrow.Author.Tests.{le-ltb, lt-ltb, le-leb, leb-true}
use Rattle.std.specs.Int.{int_max, int_min}
use Rattle.ground.specs.Pick.{pick}
use Rattle.ground.specs.Sign.{signed, below, on_mag, from_to, clip3}
use Rattle.ground.proofs.Picks.{pick_true, pick-false, and-on, and-off}
use Rattle.ground.proofs.Diffs.{Which, more, less, which, as-more, as-less}

-- by the two signs
abbrev pub differ : Bool → Bool → Bool
differ s t = not (beq s t)

-- minus zero is zero, whichever way it is written
none : {n : ℕ} → n ≡ 0 → pos n ≡ neg_ℤ (pos n)
none e = ap pos e ∙ sym (ap (λ x. neg_ℤ (pos x)) e)

pub whole : (z : ℤ) → signed (below z) (nat_abs z) ≡ z
whole (pos n) = ap (λ b. signed b n) (le-ltb n 0 zero-le)
whole (negsuc n) = refl

pub abs-signed : (s : Bool) (n : ℕ) → nat_abs (signed s n) ≡ n
abs-signed true zero = refl
abs-signed true (suc n) = refl
abs-signed false n = refl

pub abs_neg : (z : ℤ) → nat_abs (neg_ℤ z) ≡ nat_abs z
abs_neg (pos zero) = refl
abs_neg (pos (suc n)) = refl
abs_neg (negsuc n) = refl

-- the magnitude of a sum is at most that of its parts
abs-sub : (a b : ℕ) → nat_abs (sub_ℕ a b) ≤ a + b
abs-sub a b = by (which a b)
  where
    by : Which a b → nat_abs (sub_ℕ a b) ≤ a + b
    by (more h) = omega (arith, ap nat_abs (as-more a b h))
    by (less h) = omega (arith, ap nat_abs (as-less a b h))

pub abs-sum : (a b : ℤ) → nat_abs (a +ℤ b) ≤ nat_abs a + nat_abs b
abs-sum (pos a) (pos b) = omega arith
abs-sum (pos a) (negsuc b) = abs-sub a (suc b)
abs-sum (negsuc a) (pos b) = omega (arith, abs-sub b (suc a))
abs-sum (negsuc a) (negsuc b) = omega arith

pub times : (s t : Bool) (a b : ℕ) → signed s a *ℤ signed t b ≡ signed (differ s t) (a * b)
times false false a b = refl
times false true a zero = none (mul-zero a)
times false true a (suc b) = refl
times true false zero b = none (zero-mul b)
times true false (suc a) b = refl
times true true zero zero = refl
times true true zero (suc b) = sym (none (zero-mul (suc b)))
times true true (suc a) zero = sym (none (mul-zero (suc a)))
times true true (suc a) (suc b) = refl

pub times-pos : (s : Bool) (a k : ℕ) → signed s a *ℤ pos k ≡ signed s (a * k)
times-pos true a k = times true false a k
times-pos false a k = refl

pub on-signed : (f : ℕ → ℕ) → f 0 ≡ 0 → (s : Bool) (n : ℕ) → on_mag f (signed s n) ≡ signed s (f n)
on-signed f e false n = ap (λ b. signed b (f n)) (le-ltb n 0 zero-le)
on-signed f e true zero = none e
on-signed f e true (suc n) = refl

-- a number times a signed factor
pub product : (a b : ℤ) (k : ℕ) → a *ℤ (b *ℤ pos k) ≡ signed (differ (below a) (below b)) (nat_abs a * (nat_abs b * k))
product a b k =
    ap₂ (λ (x y : ℤ). x *ℤ (y *ℤ pos k)) (sym (whole a)) (sym (whole b))
    ∙ ap (λ (x : ℤ). signed (below a) (nat_abs a) *ℤ x) (times-pos (below b) (nat_abs b) k)
    ∙ times (below a) (below b) (nat_abs a) (nat_abs b * k)

no-below : (m n : ℕ) → lt_z (pos n) (neg_ℤ (pos m)) ≡ false
no-below zero n = le-ltb n 0 zero-le
no-below (suc m) n = refl

pick-min : (f : ℕ → ℤ) (m n : ℕ) → Which m n → pick (ltb m n) (f m) (f n) ≡ f (min n m)
pick-min f m n (less h) = let e : m ≡ min n m = omega arith in pick_true (f n) (lt-ltb m n h) ∙ ap f e
pick-min f m n (more h) = let e : n ≡ min n m = omega arith in pick-false (f m) (le-ltb m n h) ∙ ap f e

-- a number held to -a .. b keeps its sign, and its magnitude is held to the bound of its side
pub clip3-sides : (a b : ℕ) (z : ℤ) → clip3 (neg_ℤ (pos a)) (pos b) z ≡ signed (below z) (min (nat_abs z) (pick (below z) a b))
unfolding clip3
clip3-sides a b (pos n) =
    pick-false (neg_ℤ (pos a)) (no-below a n) ∙ pick-min pos b n (which b n)
    ∙ ap (λ (t : Bool). signed t (min n (pick t a b))) (sym (le-ltb n 0 zero-le))
clip3-sides zero b (negsuc n) = let e : 0 ≡ min (suc n) 0 = omega arith in ap (λ (k : ℕ). neg_ℤ (pos k)) e
clip3-sides (suc a) b (negsuc n) =
    let e : suc (min n a) ≡ min (suc n) (suc a) = omega arith in
    pick-min negsuc a n (which a n) ∙ ap (λ (k : ℕ). neg_ℤ (pos k)) e

-- the same with one bound for both sides
pub clip3-is : (m : ℕ) (z : ℤ) → clip3 (neg_ℤ (pos m)) (pos m) z ≡ on_mag (λ n. min n m) z
clip3-is m z = clip3-sides m m z ∙ ap (λ (k : ℕ). signed (below z) (min (nat_abs z) k)) (either (below z))
  where
    either : (t : Bool) → pick t m m ≡ m
    either true = refl
    either false = refl

-- and what is held to -a .. b lies there
lies-low : (a b m : ℕ) → m ≤ a → from_to (neg_ℤ (pos a)) (pos b) (neg_ℤ (pos m)) ≡ true
unfolding from_to
lies-low zero b zero h = le-leb 0 b zero-le
lies-low (suc a) b zero h = le-leb 0 b zero-le
lies-low zero b (suc m) h = absurd (omega arith)
lies-low (suc a) b (suc m) h = and-on (le-leb m a (omega arith))

lies-high : (a b m : ℕ) → m ≤ b → from_to (neg_ℤ (pos a)) (pos b) (pos m) ≡ true
unfolding from_to
lies-high zero b m h = and-on (le-leb 0 m zero-le) ∙ le-leb m b h
lies-high (suc a) b m h = le-leb m b h

pub clip3-lies : (a b : ℕ) (z : ℤ) → from_to (neg_ℤ (pos a)) (pos b) (clip3 (neg_ℤ (pos a)) (pos b) z) ≡ true
clip3-lies a b z = ap (from_to (neg_ℤ (pos a)) (pos b)) (clip3-sides a b z) ∙ by (below z) (nat_abs z)
  where
    by : (s : Bool) (n : ℕ) → from_to (neg_ℤ (pos a)) (pos b) (signed s (min n (pick s a b))) ≡ true
    by true n = lies-low a b (min n a) (omega arith)
    by false n = lies-high a b (min n b) (omega arith)

-- What code puts together from the answers of `negative`, `magnitude` and `with_sign`. The number u is what the local read back, c what the contract speaks of.
pub rebuilt : (f : ℕ → ℕ) {s : Bool} {m a : ℕ} {r u c : ℤ} → r ≡ signed s m → s ≡ below u → m ≡ f a → a ≡ nat_abs u → u ≡ c → r ≡ on_mag f c
rebuilt f e₁ e₂ e₃ e₄ e₅ = cc

-- a range's test as code makes it, one end after the other: a, u and h are what its locals read back
pub ranged : {a u h lo z hi : ℤ} → a ≡ lo → u ≡ z → h ≡ hi → le_z a u ≡ true → le_z u h ≡ from_to lo hi z
unfolding from_to
ranged p q r t = ap₂ le_z q r ∙ sym (and-on (sym (ap₂ le_z p q) ∙ t))

pub unranged : {a u lo z : ℤ} (hi : ℤ) → a ≡ lo → u ≡ z → le_z a u ≡ false → false ≡ from_to lo hi z
unfolding from_to
unranged {z = z} hi p q t = sym (and-off (le_z z hi) (sym (ap₂ le_z p q) ∙ t))

-- the library's `clamp` to a range that starts below zero
pub clip3-clamp : (k h : ℕ) (z : ℤ) → int_max (negsuc k) (int_min z (pos h)) ≡ clip3 (negsuc k) (pos h) z
unfolding clip3
clip3-clamp k h (pos n) = by (ltb h n)
  where
    by : (t : Bool) → int_max (negsuc k) (cond t (pos h) (pos n)) ≡ pick t (pos h) (pos n)
    by true = refl
    by false = refl
clip3-clamp k h (negsuc n) = by (ltb k n)
  where
    by : (t : Bool) → cond t (negsuc k) (negsuc n) ≡ pick t (negsuc k) (negsuc n)
    by true = refl
    by false = refl

-- what a range that starts at a natural number tells
pub record From (lo : ℕ) (z : ℤ) : Type 0 where
  pub n : ℕ
  pub is : z ≡ pos n
  pub low : lo ≤ n

pub from_is : (lo : ℕ) (hi z : ℤ) → from_to (pos lo) hi z ≡ true → From lo z
unfolding from_to
from_is lo hi (pos n) t = record { n = n; is = refl; low = leb-true lo n ((and-eq-true_iff (leb lo n) (le_z (pos n) hi)).0 t).0 }
from_is lo hi (negsuc n) t = absurd (true≢false (sym t))

-- and one that ends at one
pub from-to-most : (lo : ℤ) (hi n : ℕ) → from_to lo (pos hi) (pos n) ≡ true → n ≤ hi
unfolding from_to
from-to-most lo hi n t = leb-true n hi ((and-eq-true_iff (le_z lo (pos n)) (leb n hi)).0 t).1
