-- Numbers of two bytes and of four, the low byte first.
use Rattle.std.specs.Prelude.{ℕ, ◌+◌, ◌*◌, ◌/◌, ◌%◌, List, [], ◌∷◌, ◌++◌, ℤ, pos, negsuc, get_or}
use Rattle.std.specs.Int.{w32}
use Rattle.std.proofs.Common.{to_z}
use Rattle.ground.specs.Sign.{clip3}

-- the number in the two bytes from i on
abbrev pub two_at : List ℕ → ℕ → ℕ
two_at l i = get_or l i 0 + 256 * get_or l (i + 1) 0

abbrev pub four : ℕ → ℕ → ℕ → ℕ → ℕ
four a b c d = a + 256 * b + 65536 * c + 16777216 * d

-- the number in the four bytes from i on
abbrev pub four_at : List ℕ → ℕ → ℕ
four_at l i = four (get_or l i 0) (get_or l (i + 1) 0) (get_or l (i + 2) 0) (get_or l (i + 3) 0)

-- the four low bytes of n
abbrev pub four_bytes : ℕ → List ℕ
four_bytes n = n % 256 ∷ n / 256 % 256 ∷ n / 65536 % 256 ∷ n / 16777216 % 256 ∷ []

-- numbers one behind the other, four bytes each
unfoldable pub fours : List ℕ → List ℕ
fours [] = []
fours (n ∷ ns) = four_bytes n ++ fours ns

-- the number whose two's complement in 32 bits is n, held to -32,768 .. 32,767: `negsuc k` is -1 - k
unfoldable pub held16 : ℕ → ℤ
held16 n = clip3 (negsuc 32767) (pos 32767) (to_z w32 n)
