-- Tests that code makes in one: a distance of at most 31 either way, seven offsets that are all below 32, and bytes that all have few bits.
-- Assumes nothing.
use mathlib.Core.Path.{◌≡◌, refl}
use mathlib.Core.Bool.{Bool, true, false, ◌&&◌}
use mathlib.Core.List.{List}
use Prim.Native.Nat.{ℕ, ◌^◌, ◌≤◌}
use native.Mathlib.Omega.{arith}
use lib.Bits.{bit_or, or_lt, or_add_and, and_le_l, and_le_r}
use lib.Dec.{ltb}
use lib.ListN.{length, get_or}
use borrow.Author.Tests.{ltb-true, ltb-false, le-ltb, lt-ltb}
use Rattle.ground.specs.Below.{all_below}
use Rattle.frame.specs.hints.Description.{under}

-- two numbers have a bit above the low k together where one of them has
or-least : (a b : ℕ) → (a ≤ bit_or a b) × (b ≤ bit_or a b)
or-least a b = (omega (arith, or_add_and a b, and_le_r a b), omega (arith, or_add_and a b, and_le_l a b))

pub or-fits : (k a b : ℕ) → ltb (bit_or a b) (2 ^ k) ≡ (ltb a (2 ^ k) && ltb b (2 ^ k))
or-fits k a b = by (ltb a (2 ^ k)) (ltb b (2 ^ k)) refl refl
  where
    by : (s t : Bool) → ltb a (2 ^ k) ≡ s → ltb b (2 ^ k) ≡ t → ltb (bit_or a b) (2 ^ k) ≡ (s && t)
    by false t e f = le-ltb (bit_or a b) (2 ^ k) (omega (arith, (or-least a b).0, ltb-false a (2 ^ k) e))
    by true false e f = le-ltb (bit_or a b) (2 ^ k) (omega (arith, (or-least a b).1, ltb-false b (2 ^ k) f))
    by true true e f = lt-ltb (bit_or a b) (2 ^ k) (or_lt k a b (ltb-true a (2 ^ k) e) (ltb-true b (2 ^ k) f))

or_short : (a b : ℕ) → ltb (bit_or a b) 32 ≡ (ltb a 32 && ltb b 32)
or_short a b = or-fits 5 a b

abbrev each_or : ℕ → ℕ → ℕ → ℕ → ℕ → ℕ → ℕ → ℕ
each_or a b c d e f g = bit_or (bit_or (bit_or (bit_or (bit_or (bit_or a b) c) d) e) f) g

pub seven-short : (xs : List ℕ) → length xs ≡ 7
    → ltb (each_or (get_or xs 0 0) (get_or xs 1 0) (get_or xs 2 0) (get_or xs 3 0) (get_or xs 4 0) (get_or xs 5 0) (get_or xs 6 0)) 32 ≡ under xs 32
unfolding under all_below
seven-short xs e = rw (or_short, or_short, or_short, or_short, or_short, or_short, e)
