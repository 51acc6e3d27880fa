-- The lower precision process (7.10.2.10), by component.
use Rattle.std.specs.Prelude.{ℕ, ◌+◌, ◌-◌, ◌*◌, ◌/◌, ◌%◌, Bool, ℤ}
use Rattle.ground.specs.Pick.{pick}
use Rattle.ground.specs.Sign.{on_mag}

-- a magnitude: with integer vectors, ( a + 3 ) >> 3 whole samples of 8; else without high precision an odd one loses 1
abbrev pub lower_mag : Bool → Bool → ℕ → ℕ
lower_mag integer hp a = pick integer ((a + 3) / 8 * 8) (pick hp a (a - a % 2))

-- the sign is kept
unfoldable pub lowered : Bool → Bool → ℤ → ℤ
lowered integer hp c = on_mag (lower_mag integer hp) c
