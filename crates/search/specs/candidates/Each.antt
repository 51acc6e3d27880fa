-- The first k elements of a list, each replaced by a function of itself and of its number, where the first has the number i; the rest as they were.
use Rattle.std.specs.Prelude.{ℕ, zero, suc, List, [], ◌∷◌}

unfoldable pub map_from : {X : Type 0} → (X → ℕ → X) → List X → (i k : ℕ) → List X
map_from f [] i k = []
map_from f (x ∷ xs) i zero = x ∷ xs
map_from f (x ∷ xs) i (suc k) = f x i ∷ map_from f xs (suc i) k
