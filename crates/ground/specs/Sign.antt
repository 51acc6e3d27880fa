-- Signed numbers by sign and magnitude, and the standard's mathematical functions (4.7) on them.
-- An operation on a vector's component keeps the sign and works on the magnitude, a natural number.
use Rattle.std.specs.Prelude.{ℕ, ◌+◌, ◌/◌, ◌^◌, ◌-◌, Bool, true, false, ◌&&◌, eqb, ℤ, pos, negsuc, neg_ℤ, nat_abs}
use Rattle.std.specs.Int.Signed.{lt_z, le_z}
use Rattle.ground.specs.Pick.{pick}

-- m, or minus m where the flag is set
abbrev pub signed : Bool → ℕ → ℤ
signed true m = neg_ℤ (pos m)
signed false m = pos m

-- z is below zero
abbrev pub below : ℤ → Bool
below z = lt_z z (pos 0)

-- f of the magnitude, with the sign kept
abbrev pub on_mag : (ℕ → ℕ) → ℤ → ℤ
on_mag f z = signed (below z) (f (nat_abs z))

-- whether two numbers are equal
unfoldable pub eq_z : ℤ → ℤ → Bool
eq_z (pos a) (pos b) = eqb a b
eq_z (negsuc a) (negsuc b) = eqb a b
eq_z (pos a) (negsuc b) = false
eq_z (negsuc a) (pos b) = false

-- z lies in lo .. hi
unfoldable pub from_to : ℤ → ℤ → ℤ → Bool
from_to lo hi z = le_z lo z && le_z z hi

-- Clip3( lo, hi, z ): z, or the end of lo .. hi that it passes
unfoldable pub clip3 : ℤ → ℤ → ℤ → ℤ
clip3 lo hi z = pick (lt_z z lo) lo (pick (lt_z hi z) hi z)

-- Round2( m, n ) for n > 0: m / 2 ^ n to the nearest, halves up
unfoldable pub round2 : ℕ → ℕ → ℕ
round2 n m = (m + 2 ^ (n - 1)) / 2 ^ n

-- Round2Signed( z, n ): the magnitude rounded, the sign put back
unfoldable pub round2_signed : ℕ → ℤ → ℤ
round2_signed n z = on_mag (round2 n) z
