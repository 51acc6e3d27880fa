-- A vector in one number, and back.
-- Assumes nothing.
use mathlib.Core.Path.{◌≡◌, sym, ap, ◌∙◌}
use mathlib.Core.List.{List}
use Prim.Native.Nat.{ℕ, ◌+◌, ◌*◌, ◌/◌, ◌%◌, ◌^◌, ◌<◌}
use native.Mathlib.Omega.{arith}
use lib.IntN.{ℤ}
use lib.ListN.{get_or}
use lib.Signed.{mag}
use mir.Syntax.{w16}
use mir.ValLaws.{of_z_fits}
use mir.Facts.{of_z-to_z}
use Rattle.ground.specs.Little.{four_at}
use Rattle.ground.specs.Twos.{twos16, bits16}
use Rattle.ground.proofs.Bits.{same}
use Rattle.vector.specs.Vector.{mv_at, mv_bits, mv_of}
use Rattle.vector.specs.declared.mv.Mv.{Mv}
use Rattle.vector.proofs.Vectors.{vector, Fits}

low : (a b c d : ℕ) → a < 256 → b < 256 → (a + 256 * b + 65536 * c + 16777216 * d) % 65536 ≡ a + 256 * b
low a b c d h k = omega arith

high : (a b c d : ℕ) → a < 256 → b < 256 → (a + 256 * b + 65536 * c + 16777216 * d) / 65536 ≡ c + 256 * d
high a b c d h k = omega arith

-- the number that four bytes make holds the vector that they hold
pub of_four : (l : List ℕ) (i : ℕ) → ((j : ℕ) → get_or l j 0 < 256) → mv_of (four_at l i) ≡ mv_at l i
unfolding mv_of
of_four l i b =
    let e = low (get_or l i 0) (get_or l (i + 1) 0) (get_or l (i + 2) 0) (get_or l (i + 3) 0) (b i) (b (i + 1)) in
    let f = high (get_or l i 0) (get_or l (i + 1) 0) (get_or l (i + 2) 0) (get_or l (i + 3) 0) (b i) (b (i + 1)) in
    let g : i + 2 + 1 ≡ i + 3 = omega arith in
    vector (ap twos16 e) (ap twos16 (f ∙ ap (λ (j : ℕ). get_or l (i + 2) 0 + 256 * get_or l j 0) (sym g)))

bits_below : (z : ℤ) → mag z < 2 ^ 15 → bits16 z < 65536
bits_below z h = (of_z_fits w16 z (record { sfits = h })).fits

-- a vector of 16-bit components comes back out of its number
pub of-bits : (v : Mv) → Fits v → mv_of (mv_bits v) ≡ v
unfolding mv_of mv_bits
of-bits v f =
    let y = bits_below v.y f.y in
    let a : (bits16 v.y + 65536 * bits16 v.x) % 65536 ≡ bits16 v.y = omega (arith, y) in
    let b : (bits16 v.y + 65536 * bits16 v.x) / 65536 ≡ bits16 v.x = omega (arith, y) in
    vector (ap twos16 a ∙ same w16 v.y f.y) (ap twos16 b ∙ same w16 v.x f.x)

pub bits_most : (v : Mv) → Fits v → mv_bits v < 2 ^ 32
unfolding mv_bits
bits_most v f = let y = bits_below v.y f.y in let x = bits_below v.x f.x in omega (arith, x, y)

-- and a number out of its vector
pub bits_of : (n : ℕ) → n < 2 ^ 32 → mv_bits (mv_of n) ≡ n
unfolding mv_of mv_bits
bits_of n h =
    let a : bits16 (twos16 (n % 65536)) ≡ n % 65536 = of_z-to_z {w = w16} (record { fits = omega arith }) in
    let b : bits16 (twos16 (n / 65536)) ≡ n / 65536 = of_z-to_z {w = w16} (record { fits = omega arith }) in
    rw (a, b) (omega arith)
