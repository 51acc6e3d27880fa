-- The one word for a write: `put l i bs` is the list l with the bytes bs laid over it from index i on. What falls past the end of l is dropped.
use Rattle.std.specs.Prelude.{List, [], ◌∷◌, ◌++◌, ℕ, zero, suc, set}

unfoldable pub put : List ℕ → ℕ → List ℕ → List ℕ
put l i [] = l
put l i (b ∷ bs) = put (set l i b) (suc i) bs

-- n times the same bytes
unfoldable pub copies : ℕ → List ℕ → List ℕ
copies zero bs = []
copies (suc n) bs = bs ++ copies n bs
