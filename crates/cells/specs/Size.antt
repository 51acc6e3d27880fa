-- What a size code stands for (document 01, port order 2): the dimensions in the names of `BlockSize`, here in samples, counted in units of 4.
use Rattle.std.specs.Prelude.{ℕ, ◌/◌, List, [], Option, Some, None, ◌∷◌, get_or}
use Rattle.cells.specs.declared.size.Dims.{Dims}

-- a block of w x h samples
abbrev pub bs : ℕ → ℕ → Option Dims
bs w h = Some (record { w = record { 0 = w / 4 }; h = record { 0 = h / 4 } })

-- codes 0 to 21
abbrev pub sizes : List (Option Dims)
sizes =
    bs 128 128 ∷ bs 128 64 ∷ bs 64 128 ∷ bs 64 64 ∷ bs 64 32 ∷ bs 64 16
    ∷ bs 32 64 ∷ bs 32 32 ∷ bs 32 16 ∷ bs 32 8
    ∷ bs 16 64 ∷ bs 16 32 ∷ bs 16 16 ∷ bs 16 8 ∷ bs 16 4
    ∷ bs 8 32 ∷ bs 8 16 ∷ bs 8 8 ∷ bs 8 4
    ∷ bs 4 16 ∷ bs 4 8 ∷ bs 4 4 ∷ []

unfoldable pub size_of : ℕ → Option Dims
size_of code = get_or sizes code None
