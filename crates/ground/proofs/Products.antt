-- Products of two unknowns, which `omega` takes as one unknown each: rows of a buffer.
-- Assumes nothing.
use mathlib.Core.Path.{◌≡◌, sym, ap, ◌∙◌}
use Prim.Native.Nat.{ℕ, ◌+◌, ◌*◌, ◌/◌, ◌%◌, ◌≤◌, ◌<◌}
use native.Mathlib.Nat.{suc-mul, mul-le-mul_right, mul-add-div_right, mul-add-mod_self_right, div-eq_of_lt, mod-eq_of_lt, add-zero}
use native.Mathlib.Omega.{arith}

-- row r of h rows of s ends where the h rows end, at the latest
pub row_fits : (r h s : ℕ) → r < h → r * s + s ≤ h * s
row_fits r h s l = rw suc-mul at (mul-le-mul_right s l)

-- the row and the column of a place
pub row_of : (r s x : ℕ) → x < s → (r * s + x) / s ≡ r
row_of r s x h = mul-add-div_right (omega arith) r x ∙ ap (λ (y : ℕ). r + y) (div-eq_of_lt h) ∙ add-zero r

pub col-of : (r s x : ℕ) → x < s → (r * s + x) % s ≡ x
col-of r s x h = mul-add-mod_self_right r s x ∙ mod-eq_of_lt h

-- two places of a buffer are one only where row and column are
pub one_place : (s r x p y : ℕ) → x < s → y < s → r * s + x ≡ p * s + y → (r ≡ p) × (x ≡ y)
one_place s r x p y h g e =
    (sym (row_of r s x h) ∙ ap (λ (n : ℕ). n / s) e ∙ row_of p s y g, sym (col-of r s x h) ∙ ap (λ (n : ℕ). n % s) e ∙ col-of p s y g)
