-- The context and clamping process's context (7.10.2.14).
use Rattle.std.specs.Prelude.{ℕ, ◌+◌, ◌-◌, ◌*◌, ◌/◌, min, Bool, List, [], ◌∷◌, eqb, get_or}
use Rattle.ground.specs.Pick.{pick}
use Rattle.frame.specs.hints.Distances.{flag_of}
use Rattle.stack.specs.Stack.{State}

-- on how many of the two sides a neighbour has matched
unfoldable pub matches_of : State → ℕ
matches_of s = flag_of s.above + flag_of s.left

-- RefMvContext and NewMvContext by the matches of the near neighbours: with none, one and two
unfoldable pub ref_context : (nearest total : ℕ) → ℕ
ref_context nearest total = pick (eqb nearest 0) total (pick (eqb nearest 1) (2 + total) 5)

unfoldable pub new_context : (nearest total : ℕ) → Bool → ℕ
new_context nearest total newmv = pick (eqb nearest 0) (min total 1) (pick (eqb nearest 1) (3 - flag_of newmv) (5 - flag_of newmv))

-- Compound_Mode_Ctx_Map
abbrev pub compound_map : List (List ℕ)
compound_map = (0 ∷ 1 ∷ 1 ∷ 1 ∷ 1 ∷ []) ∷ (1 ∷ 2 ∷ 3 ∷ 4 ∷ 4 ∷ []) ∷ (4 ∷ 4 ∷ 5 ∷ 6 ∷ 7 ∷ []) ∷ []

unfoldable pub compound_context : ℕ → ℕ → ℕ
compound_context by_ref by_new = get_or (get_or compound_map (by_ref / 2) []) (min by_new 4) 0

-- in a single search the three stand side by side; `still` is the zero-motion context
unfoldable pub context_of : Bool → (nearest total : ℕ) → Bool → ℕ → ℕ
context_of compound nearest total newmv still =
    pick compound (compound_context (ref_context nearest total) (new_context nearest total newmv))
    (16 * ref_context nearest total + 8 * still + new_context nearest total newmv)
