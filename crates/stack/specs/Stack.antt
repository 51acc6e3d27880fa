-- The stack as a list of candidates, and what adding one does to it.
use Rattle.std.specs.Prelude.{ℕ, suc, ◌+◌, Bool, false, ◌&&◌, List, [], ◌∷◌, ◌++◌, map, ltb, length, get_or, set, Option, Some, None}
use Rattle.ground.specs.Pick.{pick}
use Rattle.vector.specs.Vector.{zero, eq_mv}
use Rattle.cells.specs.Block.{MvPair}
use Rattle.stack.specs.declared.candidate.Candidate.{Candidate}

-- What a search has found so far: its candidates in order, whether a matching neighbour's mode has a new vector, whether a neighbour above matched, and one to
-- the left.
pub record State : Type 0 where
  pub cands : List Candidate
  pub newmv : Bool
  pub above : Bool
  pub left : Bool

unfoldable pub nothing : State
nothing = record { cands = []; newmv = false; above = false; left = false }

-- other candidates, all else alike
abbrev pub with_cands : State → List Candidate → State
with_cands s l = record { cands = l; newmv = s.newmv; above = s.above; left = s.left }

-- both vectors are equal
unfoldable pub eq_pair : MvPair → MvPair → Bool
eq_pair p q = eq_mv p.first q.first && eq_mv p.second q.second

-- what a read past the list would give
abbrev pub nobody : Candidate
nobody = record { mv = record { first = zero; second = zero }; weight = 0 }

-- where a pair stands in the list; the list's length where it doesn't
unfoldable pub find_in : List Candidate → MvPair → ℕ
find_in [] p = 0
find_in (x ∷ xs) p = pick (eq_pair x.mv p) 0 (suc (find_in xs p))

abbrev pub stands : List Candidate → MvPair → Bool
stands l p = ltb (find_in l p) (length l)

-- its place, where it stands there
unfoldable pub place_in : List Candidate → MvPair → Option ℕ
place_in l p = pick (stands l p) (Some (find_in l p)) None

abbrev pub heavier : ℕ → Candidate → Candidate
heavier w c = record { mv = c.mv; weight = c.weight + w }

-- A candidate that stands there already gains the weight; a new one goes behind the others, and is dropped where there are eight (MAX_REF_MV_STACK_SIZE).
unfoldable pub add_to : List Candidate → MvPair → ℕ → List Candidate
add_to l p w =
    pick (stands l p) (set l (find_in l p) (heavier w (get_or l (find_in l p) nobody)))
    (pick (ltb (length l) 8) (l ++ (record { mv = p; weight = w } ∷ [])) l)

unfoldable pub joined : State → MvPair → ℕ → State
joined s p w = with_cands s (add_to s.cands p w)

-- the extra search's way: behind the others with weight 2, or so only where it is new
unfoldable pub pushed : State → MvPair → State
pushed s p = with_cands s (s.cands ++ (record { mv = p; weight = 2 } ∷ []))

unfoldable pub extended : State → MvPair → State
extended s p = with_cands s (pick (stands s.cands p) s.cands (s.cands ++ (record { mv = p; weight = 2 } ∷ [])))

-- all candidates gain a weight: REF_CAT_LEVEL, 640, once the nearest neighbours are through
unfoldable pub raised : ℕ → State → State
raised w s = with_cands s (map (heavier w) s.cands)
