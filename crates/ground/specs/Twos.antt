-- Two's complement in one byte and in two, the low byte first.
use Rattle.std.specs.Prelude.{ℕ, ◌+◌, ◌*◌, ◌/◌, ◌%◌, List, [], ◌∷◌, ℤ, get_or}
use Rattle.std.specs.Int.{w8, w16}
use Rattle.std.proofs.Common.{to_z, of_z}

-- the number whose two's complement in 8 bits is n: n itself below 2 ^ 7, and n - 2 ^ 8 from there; and the 8 bits of z, a number below 2 ^ 8
abbrev pub twos8 : ℕ → ℤ
twos8 n = to_z w8 n

abbrev pub bits8 : ℤ → ℕ
bits8 z = of_z w8 z

-- the same in 16 bits
abbrev pub twos16 : ℕ → ℤ
twos16 n = to_z w16 n

abbrev pub bits16 : ℤ → ℕ
bits16 z = of_z w16 z

-- the number in the byte at i, and in the two bytes from i on
abbrev pub byte_at : List ℕ → ℕ → ℤ
byte_at l i = twos8 (get_or l i 0)

abbrev pub half_at : List ℕ → ℕ → ℤ
half_at l i = twos16 (get_or l i 0 + 256 * get_or l (i + 1) 0)

-- the bytes that hold z
abbrev pub byte_of : ℤ → List ℕ
byte_of z = bits8 z ∷ []

abbrev pub half_of : ℤ → List ℕ
half_of z = bits16 z % 256 ∷ bits16 z / 256 ∷ []
