-- Signed numbers as code holds them. A signed local holds bits, so a need speaks of `to_z w (of_z w z)`, which is z where z fits.
-- Assumes nothing.
use mathlib.Core.Path.{◌≡◌, refl, sym, ap, ap₂, ◌∙◌, subst⁻¹}
use mathlib.Core.Logic.{◌↔◌, ◌⊎◌, ⊎_elim}
use mathlib.Core.Bool.{true}
use mathlib.Core.List.{List}
use Prim.Native.Nat.{ℕ, zero, suc, ◌+◌, ◌*◌, ◌/◌, ◌%◌, ◌^◌, ◌≤◌, ◌<◌}
use native.Mathlib.Nat.{add-zero}
use native.Mathlib.Omega.{arith}
use lib.Dec.{T, leb, eqb}
use lib.IntN.{ℤ, pos, negsuc, neg_ℤ, nat_abs, ◌-ℤ◌, +ℤ_idl}
use lib.ListN.{length, get_or}
use lib.Signed.{mag}
use mir.Syntax.{Width, w8, w16}
use mir.Val.{SFits, hbits, to_z, of_z}
use mir.Facts.{to_z-of_z, sfits_widen}
use borrow.Author.Tests.{eq-eqb, eqb-true}
use Rattle.std.proofs.Common.{int_eq}
use Rattle.std.proofs.lemmas.Bool.Decides.{same_from_decides, Decides-int_eq}
use Rattle.ground.specs.Sign.{eq_z}
use Rattle.ground.specs.Put.{put}
use Rattle.ground.specs.Twos.{twos8, twos16, bits8, bits16, byte_at, byte_of, half_at, half_of}
use Rattle.ground.proofs.Picks.{agree}
use Rattle.ground.proofs.Puts.{put-inside, put-outside}

-- a local that holds z
pub same : (w : Width) (z : ℤ) → mag z < 2 ^ hbits w → to_z w (of_z w z) ≡ z
same w z h = to_z-of_z (record { sfits = h })

-- what code computed is u, which equals z, and z fits: the local holds z
pub back : {w : Width} {u z : ℤ} → u ≡ z → SFits w z → to_z w (of_z w u) ≡ z
back {w} e f = ap (λ x. to_z w (of_z w x)) e ∙ to_z-of_z f

-- what a call returned and code returns at once
pub kept : (w : Width) {r z : ℤ} → mag r < 2 ^ hbits w → r ≡ z → to_z w (of_z w r) ≡ z
kept w ok e = to_z-of_z (record { sfits = ok }) ∙ e

-- code's `-x` is 0 - x
pub minus : {u z : ℤ} → u ≡ z → pos 0 -ℤ u ≡ neg_ℤ z
minus {u} e = +ℤ_idl (neg_ℤ u) ∙ ap neg_ℤ e

-- a bound on the magnitude is enough for a number to fit, and for its negation
pub fits-abs : {w : Width} (z : ℤ) → nat_abs z < 2 ^ hbits w → SFits w z
fits-abs (pos n) h = record { sfits = h }
fits-abs (negsuc n) h = record { sfits = omega arith }

pub fits_neg : {w : Width} (z : ℤ) → nat_abs z < 2 ^ hbits w → SFits w (neg_ℤ z)
fits_neg (pos zero) h = record { sfits = h }
fits_neg (pos (suc n)) h = record { sfits = omega arith }
fits_neg (negsuc n) h = record { sfits = h }

-- `-x` of a local that holds z
module _ (w : Width) (z : ℤ) (h : nat_abs z < 2 ^ hbits w) where
  pub minus-fits : SFits w (pos 0 -ℤ to_z w (of_z w z))
  minus-fits = subst⁻¹ (SFits w) (minus (to_z-of_z (fits-abs z h))) (fits_neg z h)

  pub minus-back : to_z w (of_z w (pos 0 -ℤ to_z w (of_z w z))) ≡ neg_ℤ z
  minus-back = back (minus (to_z-of_z (fits-abs z h))) (fits_neg z h)

-- `x as iN` of a local that holds z, to a wider type
module _ {w : Width} (w' : Width) {z : ℤ} (narrower : T (leb (hbits w) (hbits w'))) (fits : SFits w z) where
  pub widens : SFits w' (to_z w (of_z w z))
  widens = subst⁻¹ (SFits w') (to_z-of_z fits) (sfits_widen narrower fits)

-- two that fit are equal where their bits are, as `==` compares them
pub bits-same : {w : Width} {a b : ℤ} → SFits w a → SFits w b → of_z w a ≡ of_z w b → a ≡ b
bits-same {w} f g e = sym (to_z-of_z f) ∙ ap (to_z w) e ∙ to_z-of_z g

-- the test of equality, as code makes it on bits
eq_z-true : (a b : ℤ) → eq_z a b ≡ true → a ≡ b
unfolding eq_z
eq_z-true (pos a) (pos b) e = ap pos (eqb-true a b e)
eq_z-true (negsuc a) (negsuc b) e = ap negsuc (eqb-true a b e)
eq_z-true (pos a) (negsuc b) e = cc
eq_z-true (negsuc a) (pos b) e = cc

eq_z-refl : (a : ℤ) → eq_z a a ≡ true
unfolding eq_z
eq_z-refl (pos a) = eq-eqb a a refl
eq_z-refl (negsuc a) = eq-eqb a a refl

pub eq_z-is : (a b : ℤ) → a ≡ b ↔ eq_z a b ≡ true
eq_z-is a b = (λ e. rw e (eq_z-refl b), eq_z-true a b)

-- and as `==` of the library says it
pub int_eq-is : (a b : ℤ) → int_eq a b ≡ eq_z a b
int_eq-is a b = let i = eq_z-is a b in same_from_decides (int_eq a b) (eq_z a b) (Decides-int_eq a b) (i.1, i.0)

pub bits-eq_z : {w : Width} {a b : ℤ} → SFits w a → SFits w b → eqb (of_z w a) (of_z w b) ≡ eq_z a b
bits-eq_z {w} {a} {b} fa fb =
    agree _ _
    (λ e. (eq_z-is a b).0 (bits-same fa fb (eqb-true (of_z w a) (of_z w b) e)))
    (λ e. eq-eqb (of_z w a) (of_z w b) (ap (of_z w) (eq_z-true a b e)))

-- bytes that were laid down, and the number read again
pub byte-back : (l : List ℕ) (i : ℕ) (z : ℤ) → i + 1 ≤ length l → mag z < 2 ^ 7 → byte_at (put l i (byte_of z)) i ≡ z
byte-back l i z h m =
    let e : get_or (put l i (byte_of z)) i 0 ≡ bits8 z = rw add-zero at (put-inside l i (byte_of z) 0 0 (omega arith) h) in
    ap twos8 e ∙ same w8 z m

pub half_back : (l : List ℕ) (i : ℕ) (z : ℤ) → i + 2 ≤ length l → mag z < 2 ^ 15 → half_at (put l i (half_of z)) i ≡ z
half_back l i z h m =
    let low : get_or (put l i (half_of z)) i 0 ≡ bits16 z % 256 = rw add-zero at (put-inside l i (half_of z) 0 0 (omega arith) h) in
    let high : get_or (put l i (half_of z)) (i + 1) 0 ≡ bits16 z / 256 = put-inside l i (half_of z) 1 0 (omega arith) h in
    let e : get_or (put l i (half_of z)) i 0 + 256 * get_or (put l i (half_of z)) (i + 1) 0 ≡ bits16 z = omega arith in
    ap twos16 e ∙ same w16 z m

-- bytes laid elsewhere leave a number
pub half-outside : (l : List ℕ) (j : ℕ) (bs : List ℕ) (i : ℕ) → (i + 2 ≤ j) ⊎ (j + length bs ≤ i) → half_at (put l j bs) i ≡ half_at l i
half-outside l j bs i h =
    ap₂ (λ (a b : ℕ). twos16 (a + 256 * b))
    (put-outside l j bs i 0 (⊎_elim (λ p. ◌⊎◌.inl (omega arith)) (λ p. ◌⊎◌.inr (omega arith)) h))
    (put-outside l j bs (i + 1) 0 (⊎_elim (λ p. ◌⊎◌.inl (omega arith)) (λ p. ◌⊎◌.inr (omega arith)) h))
