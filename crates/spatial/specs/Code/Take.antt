-- These definitions follow the code: a match noted one flag after the other.
use Rattle.std.specs.Prelude.{ℕ, Bool}
use Rattle.ground.specs.Pick.{pick}
use Rattle.stack.specs.Code.Found.{Found}
use Rattle.stack.specs.Code.Numbers.{flagged}
use Rattle.stack.specs.declared.numbers.Flag.TheVariants.{NewMv, Above, Left}
use Rattle.spatial.specs.Take.{new_mode}

abbrev pub mode_flag : ℕ → Found → Found
mode_flag mf s = pick (new_mode mf) (flagged NewMv s) s

abbrev pub side_flag : Bool → Found → Found
side_flag down s = pick down (flagged Left s) (flagged Above s)
