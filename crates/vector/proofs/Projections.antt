-- The projection by sign and magnitude, and its size.
-- Assumes nothing.
use mathlib.Core.Path.{◌≡◌, refl, ap, ◌∙◌}
use mathlib.Core.Bool.{Bool}
use Prim.Native.Nat.{ℕ, ◌*◌, ◌≤◌, min}
use native.Mathlib.Omega.{arith}
use lib.IntN.{ℤ, nat_abs}
use Rattle.ground.specs.Sign.{signed, below, on_mag, round2, round2_signed}
use Rattle.ground.proofs.Signs.{differ, abs-signed, on-signed, product, clip3-is}
use Rattle.vector.specs.Vector.{Within, both}
use Rattle.vector.specs.Projection.{div_mult, rescaled, projected}
use Rattle.vector.specs.declared.mv.Mv.{Mv}

-- the magnitude that c becomes
abbrev pub size : ℕ → ℕ → ℕ → ℕ
size num den c = min (round2 14 (c * (num * div_mult den))) 16383

pub projected-is : (num : ℤ) (den : ℕ) (c : ℤ) → projected num den c ≡ signed (differ (below c) (below num)) (size (nat_abs num) den (nat_abs c))
unfolding projected rescaled round2_signed round2
projected-is num den c =
    let s = differ (below c) (below num) in
    let n = nat_abs c * (nat_abs num * div_mult den) in
    clip3-is 16383 (rescaled num den c)
    ∙ ap (on_mag (λ m. min m 16383)) (ap (on_mag (round2 14)) (product c num (div_mult den)) ∙ on-signed (round2 14) refl s n)
    ∙ on-signed (λ m. min m 16383) refl s (round2 14 n)

pub projected-within : (num : ℤ) (den : ℕ) (v : Mv) → Within 16383 (both (projected num den) v)
projected-within num den v = record { y = at v.y; x = at v.x }
  where
    at : (c : ℤ) → nat_abs (projected num den c) ≤ 16383
    at c =
        omega (arith, ap nat_abs (projected-is num den c), abs-signed (differ (below c) (below num)) (size (nat_abs num) den (nat_abs c)))

-- What code puts together from sign and magnitude: u and v are what its locals read back, c and num what the contract speaks of.
pub reprojected : (den : ℕ) {s t : Bool} {m a k : ℕ} {r u v c num : ℤ} → r ≡ signed (differ s t) m → s ≡ below u → t ≡ below v → m ≡ size k den a → a ≡ nat_abs u → k ≡ nat_abs v → u ≡ c → v ≡ num → r ≡ projected num den c
reprojected den {c = c} {num = num} e₁ e₂ e₃ e₄ e₅ e₆ e₇ e₈ = let p = projected-is num den c in cc
