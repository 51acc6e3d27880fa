-- The two candidates that are pushed.
-- Assumes nothing.
use mathlib.Core.Path.{◌≡◌, refl, ap}
use mathlib.Core.Bool.{true, false}
use mathlib.Core.List.{List, [], ◌∷◌, ◌++◌}
use native.Mathlib.Omega.{arith}
use lib.Dec.{eqb}
use lib.ListN.{length, get_or}
use Rattle.ground.specs.Pick.{pick}
use Rattle.cells.specs.Block.{MvPair}
use Rattle.stack.specs.declared.candidate.Candidate.{Candidate}
use Rattle.stack.specs.Stack.{State, with_cands, nobody, eq_pair}
use Rattle.stack.specs.Stack as stack
use Rattle.search.specs.extra.Pool.{least, completed}

-- both pairs, or one of them behind the one candidate
module _ (p q : MvPair) (s : State) where
  pub completes-none : length s.cands ≡ 0 → stack.pushed (stack.pushed s p) q ≡ completed p q s
  unfolding stack.pushed completed
  completes-none e = ap (with_cands s) (by s.cands e)
    where
      by : (l : List Candidate) → length l ≡ 0
          → (l ++ (least p ∷ [])) ++ (least q ∷ [])
          ≡ pick (eqb (length l) 0) (least p ∷ least q ∷ []) (l ++ (least (pick (eq_pair (get_or l 0 nobody).mv p) q p) ∷ []))
      by [] h = refl
      by (x ∷ l) h = absurd (omega arith)

  pub completes-first : length s.cands ≡ 1 → eq_pair (get_or s.cands 0 nobody).mv p ≡ true → stack.pushed s q ≡ completed p q s
  unfolding stack.pushed completed
  completes-first e f = rw (e, f)

  pub completes-other : length s.cands ≡ 1 → eq_pair (get_or s.cands 0 nobody).mv p ≡ false → stack.pushed s p ≡ completed p q s
  unfolding stack.pushed completed
  completes-other e f = rw (e, f)
