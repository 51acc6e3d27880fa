-- A vector of lower precision stays within what it takes, and at high precision as it is.
-- Assumes nothing.
use mathlib.Core.Path.{◌≡◌, sym}
use mathlib.Core.Bool.{Bool, true, false, ◌&&◌, not}
use Prim.Native.Nat.{ℕ, ◌≤◌}
use native.Mathlib.Omega.{arith}
use lib.IntN.{ℤ, nat_abs}
use Rattle.ground.specs.Sign.{below}
use Rattle.ground.proofs.Signs.{abs-signed, whole}
use Rattle.vector.specs.Vector.{Within, both}
use Rattle.vector.specs.Precision.{lower_mag, lowered}
use Rattle.vector.specs.declared.mv.Mv.{Mv}
use Rattle.vector.proofs.Vectors.{vector}

lower-most : (integer hp : Bool) (a : ℕ) → a ≤ 16384 → lower_mag integer hp a ≤ 16384
lower-most true hp a h = omega arith
lower-most false true a h = h
lower-most false false a h = omega arith

pub lowered-within : (integer hp : Bool) (v : Mv) → Within 16384 v → Within 16384 (both (lowered integer hp) v)
unfolding lowered
lowered-within integer hp v w = record { y = at v.y w.y; x = at v.x w.x }
  where
    at : (c : ℤ) → nat_abs c ≤ 16384 → nat_abs (lowered integer hp c) ≤ 16384
    at c h = rw (abs-signed (below c) (lower_mag integer hp (nat_abs c))) (lower-most integer hp (nat_abs c) h)

-- at high precision, and where integer vectors aren't asked for, a vector is kept
pub kept_high : (integer hp : Bool) (v : Mv) → (hp && not integer) ≡ true → v ≡ both (lowered integer hp) v
unfolding lowered
kept_high true true v e = cc
kept_high true false v e = cc
kept_high false true v e = vector (sym (whole v.y)) (sym (whole v.x))
kept_high false false v e = cc
