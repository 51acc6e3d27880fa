-- The distance of two order hints: it is what document 01 asks (`right`), and nothing else is (`only`); and how code works it out, W being what
-- `1 << bits` gives.
-- Assumes nothing.
use mathlib.Core.Path.{◌≡◌, refl, sym, ap, ap₂, ◌∙◌}
use mathlib.Core.Bool.{true, false}
use Prim.Native.Nat.{ℕ, zero, suc, ◌+◌, ◌-◌, ◌*◌, ◌/◌, ◌%◌, ◌^◌, ◌≤◌, ◌<◌}
use native.Mathlib.Nat.{two-pow-succ, one-mul, mul-one, mul-suc, mul-add, mul_comm, div-add-mod, mod-lt}
use native.Mathlib.Omega.{arith}
use lib.IntN.{ℤ, pos, negsuc, neg_ℤ, sub_ℕ}
use lib.Signed.{lt_z}
use lib.Pow.{shl_exact, pow_pos}
use lib.Dec.{lit<}
use borrow.Author.Tests.{lt-ltb, le-ltb, ltb-true, ltb-false}
use Rattle.ground.specs.Pick.{pick}
use Rattle.ground.proofs.Diffs.{Which, more, less, which, diff, diff-only, as-pos, as-neg, test}
use Rattle.ground.proofs.Products.{one_place}
use Rattle.vector.specs.Hint.{centred, distance, Right}

pub shifted : (bits : ℕ) → bits ≤ 8 → (1 * 2 ^ bits) % 4294967296 ≡ 2 ^ bits
shifted bits h = shl_exact 1 bits 32 (lit< tt) (omega arith) ∙ one-mul (2 ^ bits)

low : (k d : ℕ) → d < 2 ^ k → centred k d ≡ pos d
low k d h = ap (λ t. pick t (pos d) (neg_ℤ (pos (2 ^ suc k - d)))) (lt-ltb d (2 ^ k) h)

high : (k d : ℕ) → 2 ^ k ≤ d → centred k d ≡ neg_ℤ (pos (2 ^ suc k - d))
high k d h = ap (λ t. pick t (pos d) (neg_ℤ (pos (2 ^ suc k - d)))) (le-ltb d (2 ^ k) h)

pub ahead : (bits a b W : ℕ) → (bits ≡ 0 → ⊥) → W ≡ 2 ^ bits → (a + W - b) % W < W / 2 → pos ((a + W - b) % W) ≡ distance bits a b
unfolding distance
ahead zero a b W n e h = absurd (n refl)
ahead (suc k) a b W n e h =
    sym (low k ((a + W - b) % W) (omega (arith, two-pow-succ k))) ∙ ap (λ w. centred k ((a + w - b) % w)) e

pub behind : (bits a b W : ℕ) → (bits ≡ 0 → ⊥) → W ≡ 2 ^ bits → W / 2 ≤ (a + W - b) % W → neg_ℤ (pos (W - (a + W - b) % W)) ≡ distance bits a b
unfolding distance
behind zero a b W n e h = absurd (n refl)
behind (suc k) a b W n e h =
    ap (λ w. neg_ℤ (pos (w - (a + W - b) % W))) e ∙ sym (high k ((a + W - b) % W) (omega (arith, two-pow-succ k)))
    ∙ ap (λ w. centred k ((a + w - b) % w)) e

pub right : (k a b : ℕ) → b < 2 ^ suc k → Right k a b (distance (suc k) a b)
unfolding distance
right k a b h = by (which d (2 ^ k))
  where
    W : ℕ
    W = 2 ^ suc k

    t : ℕ
    t = (a + W - b) / W

    d : ℕ
    d = (a + W - b) % W

    split : W * t + d ≡ a + W - b
    split = div-add-mod (a + W - b) W

    part : d < W
    part = mod-lt (a + W - b) (pow_pos (suc k))

    is : (z : ℤ) (m n : ℕ) → z ≡ sub_ℕ m n → m < 2 ^ k + n → n ≤ 2 ^ k + m → (q : ℕ) → sub_ℕ m n ≡ sub_ℕ (a + W * 1) (b + W * q) → Right k a b z
    is z m n e l g q c =
        record {
          p = 1;
          q = q;
          congruent = e ∙ c;
          above = ap₂ lt_z e (as-neg (2 ^ k)) ∙ test m n 0 (2 ^ k) ∙ le-ltb (m + 2 ^ k) (0 + n) (omega arith);
          under = ap₂ lt_z e (as-pos (2 ^ k)) ∙ test m n (2 ^ k) 0 ∙ lt-ltb (m + 0) (2 ^ k + n) (omega arith);
        }

    by : Which d (2 ^ k) → Right k a b (distance (suc k) a b)
    by (less l) =
        is (centred k d) d 0 (low k d l ∙ as-pos d) (omega arith) (omega arith) t
        (diff d 0 (a + W * 1) (b + W * t) (omega (arith, split, part, mul-one W)))
    by (more l) =
        is (centred k d) 0 (W - d) (high k d l ∙ as-neg (W - d)) (omega (arith, pow_pos k)) (omega (arith, part, two-pow-succ k)) (suc t)
        (diff 0 (W - d) (a + W * 1) (b + W * suc t) (omega (arith, split, part, mul-one W, mul-suc W t)))

-- a number in range, counted from the range's start
record Counted (k : ℕ) (z : ℤ) : Type 0 where
  u : ℕ
  is : z ≡ sub_ℕ u (2 ^ k)
  less : u < 2 ^ suc k

counted : (k : ℕ) (z : ℤ) → lt_z z (neg_ℤ (pos (2 ^ k))) ≡ false → lt_z z (pos (2 ^ k)) ≡ true → Counted k z
counted k (pos n) low high =
    let h = ltb-true n (2 ^ k) high in
    record { u = n + 2 ^ k; is = as-pos n ∙ diff n 0 (n + 2 ^ k) (2 ^ k) (omega arith); less = omega (arith, two-pow-succ k) }
counted k (negsuc n) low high =
    let t : lt_z (sub_ℕ 0 (suc n)) (sub_ℕ 0 (2 ^ k)) ≡ false = ap₂ lt_z (sym (as-neg (suc n))) (sym (as-neg (2 ^ k))) ∙ low in
    let h = ltb-false (0 + 2 ^ k) (0 + suc n) (sym (test 0 (suc n) 0 (2 ^ k)) ∙ t) in
    record {
      u = 2 ^ k - suc n;
      is = as-neg (suc n) ∙ diff 0 (suc n) (2 ^ k - suc n) (2 ^ k) (omega arith);
      less = omega (arith, two-pow-succ k, pow_pos k);
    }

-- two that are asked for are one
same : (k a b : ℕ) (y z : ℤ) → Right k a b y → Right k a b z → y ≡ z
same k a b y z r s =
    let W = 2 ^ suc k in
    let i = counted k y r.above r.under in
    let j = counted k z s.above s.under in
    let e = diff-only i.u (2 ^ k) (a + W * r.p) (b + W * r.q) (sym i.is ∙ r.congruent) in
    let f = diff-only j.u (2 ^ k) (a + W * s.p) (b + W * s.q) (sym j.is ∙ s.congruent) in
    let m : (r.q + s.p) * W + i.u ≡ (s.q + r.p) * W + j.u =
    omega (arith, e, f, mul_comm (r.q + s.p) W, mul_comm (s.q + r.p) W, mul-add W r.q s.p, mul-add W s.q r.p) in
    let u = (one_place W (r.q + s.p) i.u (s.q + r.p) j.u i.less j.less m).1 in
    i.is ∙ ap (λ (n : ℕ). sub_ℕ n (2 ^ k)) u ∙ sym j.is

pub only : (k a b : ℕ) → b < 2 ^ suc k → (z : ℤ) → Right k a b z → z ≡ distance (suc k) a b
only k a b h z r = same k a b z (distance (suc k) a b) r (right k a b h)
