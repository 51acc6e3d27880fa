-- Places of the record's selected references, as code makes them. A signed local reads back as u what the contract calls z.
-- Assumes nothing.
use mathlib.Core.Path.{◌≡◌, sym, ◌∙◌}
use mathlib.Core.Bool.{true, false, ◌||◌}
use Prim.Native.Nat.{◌≤◌, ◌<◌}
use native.Mathlib.Omega.{arith}
use lib.IntN.{ℤ, nat_abs}
use borrow.Author.Tests.{ltb-false}
use Rattle.ground.specs.Sign.{below}
use Rattle.ground.proofs.Picks.{pick_true, pick-false, or_off}
use Rattle.frame.specs.Mfmv.{far, offset}

-- a distance that is not far is at most 31
pub near : (z : ℤ) → far z ≡ false → nat_abs z ≤ 31
unfolding far
near z e = ltb-false 31 (nat_abs z) e

-- one that lies behind, or is far, gives no offset; any other is the offset
pub offset-none : (z : ℤ) → (below z || far z) ≡ true → 0 ≡ offset z
unfolding offset
offset-none z e = sym (pick_true (nat_abs z) e)

pub offset-is : (z : ℤ) → below z ≡ false → far z ≡ false → nat_abs z ≡ offset z
unfolding offset
offset-is z e f = sym (pick-false 0 (or_off e ∙ f))

pub near_fits : (z : ℤ) → far z ≡ false → nat_abs z < 32768
near_fits z e = let h = near z e in omega arith
