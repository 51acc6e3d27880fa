-- The motion vector: its fixed values, operations by component, and its four bytes (document 01, "Bytes that are lent").
use Rattle.std.specs.Prelude.{ℕ, ◌+◌, ◌*◌, ◌/◌, ◌%◌, ◌≤◌, Bool, ◌&&◌, List, ◌++◌, leb, ℤ, pos, negsuc, nat_abs}
use Rattle.ground.specs.Sign.{eq_z}
use Rattle.ground.specs.Twos.{half_at, half_of, twos16, bits16}
use Rattle.vector.specs.declared.mv.Mv.{Mv}

abbrev pub zero : Mv
zero = record { y = pos 0; x = pos 0 }

-- both components -32,768: `negsuc n` is -1 - n
abbrev pub invalid : Mv
invalid = record { y = negsuc 32767; x = negsuc 32767 }

-- whether two vectors are equal, in both components
unfoldable pub eq_mv : Mv → Mv → Bool
eq_mv u v = eq_z u.y v.y && eq_z u.x v.x

-- both components' magnitudes are at most m
pub record Within (m : ℕ) (v : Mv) : Type 0 where
  pub y : nat_abs v.y ≤ m
  pub x : nat_abs v.x ≤ m

-- the same as a test
unfoldable pub within : ℕ → Mv → Bool
within m v = leb (nat_abs v.y) m && leb (nat_abs v.x) m

-- a function of a component, on both
abbrev pub both : (ℤ → ℤ) → Mv → Mv
both f v = record { y = f v.y; x = f v.x }

-- the vector in the four bytes from i on, y first; and the bytes that hold it
abbrev pub mv_at : List ℕ → ℕ → Mv
mv_at l i = record { y = half_at l i; x = half_at l (i + 2) }

abbrev pub mv_bytes : Mv → List ℕ
mv_bytes v = half_of v.y ++ half_of v.x

-- the vector in one number of 32 bits, y in the lower half; and the vector that such a number holds
unfoldable pub mv_bits : Mv → ℕ
mv_bits v = bits16 v.y + 65536 * bits16 v.x

unfoldable pub mv_of : ℕ → Mv
mv_of n = record { y = twos16 (n % 65536); x = twos16 (n / 65536) }
