-- How long the stack gets in the extra search.
-- Assumes nothing.
use mathlib.Core.Path.{◌≡◌, refl}
use mathlib.Core.Bool.{Bool, true, false}
use mathlib.Core.List.{List, [], ◌∷◌, ◌++◌}
use Prim.Native.Nat.{ℕ, suc, ◌+◌, ◌≤◌, ◌<◌}
use native.Mathlib.Omega.{arith}
use lib.Dec.{eqb}
use lib.ListN.{length, length-append}
use Rattle.ground.specs.Pick.{pick}
use Rattle.vector.specs.Vector.{zero}
use Rattle.cells.specs.declared.cell.Ref.{Ref}
use Rattle.cells.specs.declared.block.Block.{Block}
use Rattle.cells.specs.Block.{MvPair}
use Rattle.stack.specs.declared.candidate.Candidate.{Candidate}
use Rattle.stack.specs.Stack.{State, stands, extended}
use Rattle.search.specs.declared.extra.lists.Listed.{Listed}
use Rattle.cells.specs.Cell.{is_ref}
use Rattle.search.specs.extra.Lists.{turned, lists_of, list_of, all_of, extended_by}
use Rattle.search.specs.extra.Pool.{least, completed}

-- each list gives at most one candidate, and a neighbour has at most two
one_more : (s : State) (p : MvPair) → length (extended s p).cands ≤ suc (length s.cands)
unfolding extended
one_more s p = by (stands s.cands p)
  where
    by : (b : Bool) → length (pick b s.cands (s.cands ++ (least p ∷ []))) ≤ suc (length s.cands)
    by true = omega arith
    by false = omega (arith, length-append s.cands (least p ∷ []))

all_more : (biases : List ℕ) (r : Ref) (ls : List Listed) (s : State) → length (all_of biases r ls s).cands ≤ length s.cands + length ls
unfolding all_of list_of
all_more biases r [] s = omega arith
all_more biases r (l ∷ ls) s = omega (arith, all_more biases r ls (list_of biases r l s), one_more s (record { first = turned biases r l; second = zero }))

two-lists : (k : Block) → length (lists_of k) ≤ 2
unfolding lists_of
two-lists k = by (is_ref k.refs.first) (is_ref k.refs.second) _ _
  where
    by : (b d : Bool) (x y : Listed) → length (pick b (x ∷ pick d (y ∷ []) []) []) ≤ 2
    by true true x y = omega arith
    by true false x y = omega arith
    by false d x y = omega arith

pub two-more : (biases : List ℕ) (r : Ref) (k : Block) (s : State) → length (extended_by biases r k s).cands ≤ length s.cands + 2
unfolding extended_by
two-more biases r k s = omega (arith, all_more biases r (lists_of k) s, two-lists k)

-- two candidates in all
laid-behind : List Candidate → Candidate → Candidate → Candidate → List Candidate
laid-behind l c d e = pick (eqb (length l) 0) (c ∷ d ∷ []) (l ++ (e ∷ []))

two-laid : (l : List Candidate) (c d e : Candidate) → length l < 2 → length (laid-behind l c d e) ≡ 2
unfolding laid-behind
two-laid [] c d e h = refl
two-laid (x ∷ []) c d e h = refl
two-laid (x ∷ y ∷ l) c d e h = absurd (omega arith)

module _ (p q : MvPair) (s : State) (few : length s.cands < 2) where
  pub completed-two : length (completed p q s).cands ≡ 2
  unfolding completed laid-behind
  completed-two = two-laid s.cands (least p) (least q) _ few
