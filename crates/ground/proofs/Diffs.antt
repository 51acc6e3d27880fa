-- Integers as differences of naturals, so that `omega`, which reads ℕ and no ℤ, decides linear facts of them. `sub_ℕ a b` is the integer a - b of two
-- naturals: a sum, a negation and a test of such differences is again one, or a test in ℕ, and two are equal where an equation in ℕ holds.
-- A linear fact about integers is: each side as one difference (`as-pos`, `as-neg`, `add`, `neg`), and `diff` between them.
-- Assumes nothing.
use mathlib.Core.Path.{◌≡◌, refl, sym, ap, ap₂, ◌∙◌}
use mathlib.Core.Bool.{false, not, cond}
use Prim.Native.Nat.{ℕ, zero, suc, ◌+◌, ◌-◌, ◌≤◌, ◌<◌, zero-le}
use native.Mathlib.Decide.{dec_lt}
use native.Mathlib.Omega.{arith}
use lib.Dec.{ltb, leb}
use lib.IntN.{ℤ, pos, negsuc, neg_ℤ, sub_ℕ, ◌+ℤ◌}
use lib.Signed.{lt_z, le_z}
use borrow.Author.Tests.{lt-ltb, le-ltb, lt-leb, le-leb, ltb-false}

-- which of two is larger
pub data Which (a b : ℕ) : Type 0 where
  more : b ≤ a → Which a b
  less : a < b → Which a b

pub which : (a b : ℕ) → Which a b
which a b = by (dec_lt a b)
  where
    by : Dec (a < b) → Which a b
    by (yes h) = less h
    by (no h) = more (omega arith)

pub as-more : (a b : ℕ) → b ≤ a → sub_ℕ a b ≡ pos (a - b)
as-more a b h = ap (λ t. cond t (negsuc (b - suc a)) (pos (a - b))) (le-ltb a b h)

pub as-less : (a b : ℕ) → a < b → sub_ℕ a b ≡ negsuc (b - suc a)
as-less a b h = ap (λ t. cond t (negsuc (b - suc a)) (pos (a - b))) (lt-ltb a b h)

pub diff : (a b c d : ℕ) → a + d ≡ c + b → sub_ℕ a b ≡ sub_ℕ c d
diff a b c d e = by (which a b)
  where
    by : Which a b → sub_ℕ a b ≡ sub_ℕ c d
    by (more h) = let k : a - b ≡ c - d = omega arith in as-more a b h ∙ ap pos k ∙ sym (as-more c d (omega arith))
    by (less h) = let k : b - suc a ≡ d - suc c = omega arith in as-less a b h ∙ ap negsuc k ∙ sym (as-less c d (omega arith))

pub as-pos : (n : ℕ) → pos n ≡ sub_ℕ n 0
as-pos n = let k : n ≡ n - 0 = omega arith in ap pos k ∙ sym (as-more n 0 zero-le)

pub as-neg : (n : ℕ) → neg_ℤ (pos n) ≡ sub_ℕ 0 n
as-neg zero = refl
as-neg (suc n) = let k : n ≡ suc n - suc 0 = omega arith in ap negsuc k ∙ sym (as-less 0 (suc n) (omega arith))

pub add : (a b c d : ℕ) → sub_ℕ a b +ℤ sub_ℕ c d ≡ sub_ℕ (a + c) (b + d)
add a b c d = by (which a b) (which c d)
  where
    by : Which a b → Which c d → sub_ℕ a b +ℤ sub_ℕ c d ≡ sub_ℕ (a + c) (b + d)
    by (more h) (more k) =
        let e : a - b + (c - d) ≡ a + c - (b + d) = omega arith in
        ap₂ (λ x y. x +ℤ y) (as-more a b h) (as-more c d k) ∙ ap pos e ∙ sym (as-more (a + c) (b + d) (omega arith))
    by (more h) (less k) =
        ap₂ (λ x y. x +ℤ y) (as-more a b h) (as-less c d k) ∙ diff (a - b) (suc (d - suc c)) (a + c) (b + d) (omega arith)
    by (less h) (more k) =
        ap₂ (λ x y. x +ℤ y) (as-less a b h) (as-more c d k) ∙ diff (c - d) (suc (b - suc a)) (a + c) (b + d) (omega arith)
    by (less h) (less k) =
        let e : suc (b - suc a + (d - suc c)) ≡ b + d - suc (a + c) = omega arith in
        ap₂ (λ x y. x +ℤ y) (as-less a b h) (as-less c d k) ∙ ap negsuc e ∙ sym (as-less (a + c) (b + d) (omega arith))

pub neg : (a b : ℕ) → neg_ℤ (sub_ℕ a b) ≡ sub_ℕ b a
neg a b = by (which a b)
  where
    by : Which a b → neg_ℤ (sub_ℕ a b) ≡ sub_ℕ b a
    by (more h) = ap neg_ℤ (as-more a b h) ∙ as-neg (a - b) ∙ diff 0 (a - b) b a (omega arith)
    by (less h) =
        let e : suc (b - suc a) ≡ b - a = omega arith in
        ap neg_ℤ (as-less a b h) ∙ ap pos e ∙ sym (as-more b a (omega arith))

-- a signed test is one in ℕ
pub test : (a b c d : ℕ) → lt_z (sub_ℕ a b) (sub_ℕ c d) ≡ ltb (a + d) (c + b)
test a b c d = by (which a b) (which c d)
  where
    by : Which a b → Which c d → lt_z (sub_ℕ a b) (sub_ℕ c d) ≡ ltb (a + d) (c + b)
    by (more h) (more k) = ap₂ lt_z (as-more a b h) (as-more c d k) ∙ both (which (a - b) (c - d))
      where
        both : Which (a - b) (c - d) → ltb (a - b) (c - d) ≡ ltb (a + d) (c + b)
        both (more l) = le-ltb (a - b) (c - d) l ∙ sym (le-ltb (a + d) (c + b) (omega arith))
        both (less l) = lt-ltb (a - b) (c - d) l ∙ sym (lt-ltb (a + d) (c + b) (omega arith))
    by (more h) (less k) = ap₂ lt_z (as-more a b h) (as-less c d k) ∙ sym (le-ltb (a + d) (c + b) (omega arith))
    by (less h) (more k) = ap₂ lt_z (as-less a b h) (as-more c d k) ∙ sym (lt-ltb (a + d) (c + b) (omega arith))
    by (less h) (less k) = ap₂ lt_z (as-less a b h) (as-less c d k) ∙ both (which (d - suc c) (b - suc a))
      where
        both : Which (d - suc c) (b - suc a) → ltb (d - suc c) (b - suc a) ≡ ltb (a + d) (c + b)
        both (more l) = le-ltb (d - suc c) (b - suc a) l ∙ sym (le-ltb (a + d) (c + b) (omega arith))
        both (less l) = lt-ltb (d - suc c) (b - suc a) l ∙ sym (lt-ltb (a + d) (c + b) (omega arith))

-- the same for at most
pub leb-not : (a b : ℕ) → leb a b ≡ not (ltb b a)
leb-not a b = by (which b a)
  where
    by : Which b a → leb a b ≡ not (ltb b a)
    by (more h) = le-leb a b h ∙ sym (ap not (le-ltb b a h))
    by (less h) = lt-leb a b h ∙ sym (ap not (lt-ltb b a h))

le_z-not : (y z : ℤ) → le_z y z ≡ not (lt_z z y)
le_z-not (pos a) (pos b) = leb-not a b
le_z-not (pos a) (negsuc b) = refl
le_z-not (negsuc a) (pos b) = refl
le_z-not (negsuc a) (negsuc b) = leb-not b a

pub test-most : (a b c d : ℕ) → le_z (sub_ℕ a b) (sub_ℕ c d) ≡ leb (a + d) (c + b)
test-most a b c d = le_z-not (sub_ℕ a b) (sub_ℕ c d) ∙ ap not (test c d a b) ∙ sym (leb-not (a + d) (c + b))

-- a number is not below itself
under_none : (z : ℤ) → lt_z z z ≡ false
under_none (pos n) = le-ltb n n (omega arith)
under_none (negsuc n) = le-ltb n n (omega arith)

-- equal differences, as an equation in ℕ
pub diff-only : (a b c d : ℕ) → sub_ℕ a b ≡ sub_ℕ c d → a + d ≡ c + b
diff-only a b c d e =
    let low = ltb-false (a + d) (c + b) (sym (test a b c d) ∙ ap (λ (z : ℤ). lt_z z (sub_ℕ c d)) e ∙ under_none (sub_ℕ c d)) in
    let high = ltb-false (c + b) (a + d) (sym (test c d a b) ∙ ap (λ (z : ℤ). lt_z (sub_ℕ c d) z) e ∙ under_none (sub_ℕ c d)) in
    omega arith
