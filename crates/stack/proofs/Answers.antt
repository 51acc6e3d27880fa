-- What a part's answer says of its outcome: 0 with what was found, or a refusal.
-- Assumes nothing.
use mathlib.Core.Path.{◌≡◌}
use Prim.Native.Nat.{ℕ}
use borrow.Author.Tests.{eq-eqb, ne_eqb}
use Rattle.ground.proofs.Picks.{pick_true, pick-false}
use Rattle.stack.specs.Code.Found.{Found, view, outcome}
use Rattle.stack.specs.Answered.{refused, found}

module _ (answer : ℕ) (s : Found) where
  pub is_found : answer ≡ 0 → outcome answer s ≡ found (view s)
  unfolding outcome
  is_found e = pick_true _ (eq-eqb _ _ e)

  pub is-refused : (answer ≡ 0 → ⊥) → outcome answer s ≡ refused answer
  unfolding outcome
  is-refused n = pick-false _ (ne_eqb _ _ n)
