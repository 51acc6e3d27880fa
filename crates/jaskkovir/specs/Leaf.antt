-- A vector out of its two components.
use Rattle.std.specs.Prelude.{ℤ}
use Rattle.vector.specs.declared.mv.Mv.{Mv}

abbrev pub mv : ℤ → ℤ → Mv
mv y x = record { y = y; x = x }
