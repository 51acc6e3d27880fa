-- Things done one after the other, for a, a + 1, .. up to e - 1: what they lay, and the first of their answers that refuses. None where e is not above a.
use Rattle.std.specs.Prelude.{List, [], ◌++◌, ℕ, zero, suc, ◌-◌}
use Rattle.ground.specs.Answer.{or_else}
use Rattle.ground.specs.Script.{Patch}

unfoldable pub over : (ℕ → List Patch) → ℕ → ℕ → List Patch
over f zero a = []
over f (suc n) a = f a ++ over f n (suc a)

unfoldable pub span : (ℕ → List Patch) → ℕ → ℕ → List Patch
span f a e = over f (e - a) a

unfoldable pub first_over : (ℕ → ℕ) → ℕ → ℕ → ℕ
first_over f zero a = 0
first_over f (suc n) a = or_else (f a) (first_over f n (suc a))

unfoldable pub first_of : (ℕ → ℕ) → ℕ → ℕ → ℕ
first_of f a e = first_over f (e - a) a
