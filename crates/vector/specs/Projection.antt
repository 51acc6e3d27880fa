-- The vector projection process (7.9.3), by component. The standard clips numerator and denominator to 31 first; here they lie there already.
use Rattle.std.specs.Prelude.{ℕ, ◌/◌, ℤ, pos, neg_ℤ, ◌*ℤ◌}
use Rattle.ground.specs.Sign.{clip3, round2_signed}

-- Div_Mult[ den ]
abbrev pub div_mult : ℕ → ℕ
div_mult den = 16384 / den

-- Round2Signed( c * factor, 14 ), factor = num * Div_Mult[ den ]
unfoldable pub rescaled : ℤ → ℕ → ℤ → ℤ
rescaled num den c = round2_signed 14 (c *ℤ (num *ℤ pos (div_mult den)))

-- Clip3( -( 1 << 14 ) + 1, ( 1 << 14 ) - 1, . )
unfoldable pub projected : ℤ → ℕ → ℤ → ℤ
projected num den c = clip3 (neg_ℤ (pos 16383)) (pos 16383) (rescaled num den c)
