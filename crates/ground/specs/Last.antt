-- Steps a, a + 1, .. up to e - 1 on one value, and the last of them that counts: how laws read that look at one place of a buffer.
use Rattle.std.specs.Prelude.{Bool, ℕ, zero, suc, ◌-◌}
use Rattle.ground.specs.Pick.{pick}

unfoldable pub each : {A : Type 0} → (ℕ → A → A) → ℕ → ℕ → A → A
each g zero a d = d
each g (suc n) a d = each g n (suc a) (g a d)

unfoldable pub fold : {A : Type 0} → (ℕ → A → A) → ℕ → ℕ → A → A
fold g a e d = each g (e - a) a d

-- the value at the last of a .. e where the test holds; d where there is none
abbrev pub last : {A : Type 0} → (ℕ → Bool) → (ℕ → A) → ℕ → ℕ → A → A
last here value a e d = fold (λ x o. pick (here x) (value x) o) a e d
