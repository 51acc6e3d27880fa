-- A flag of a `bool`, as std makes it.
-- Assumes nothing.
use mathlib.Core.Path.{◌≡◌, refl}
use mathlib.Core.Bool.{Bool, true, false}
use Rattle.std.specs.Int.{from_bool}
use Rattle.frame.specs.hints.Distances.{flag_of}

pub flag-is : (b : Bool) → from_bool b ≡ flag_of b
flag-is true = refl
flag-is false = refl
