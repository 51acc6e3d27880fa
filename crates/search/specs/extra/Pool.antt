-- The extra search of a compound pair (7.10.2.12): what is gathered for each reference, and the two pairs that it makes.
use Rattle.std.specs.Prelude.{ℕ, Bool, ◌&&◌, not, List, [], ◌∷◌, ◌++◌, eqb, ltb, length, get_or}
use Rattle.ground.specs.Pick.{pick}
use Rattle.ground.specs.Sign.{eq_z}
use Rattle.vector.specs.declared.mv.Mv.{Mv}
use Rattle.vector.specs.Vector.{zero}
use Rattle.cells.specs.declared.cell.Ref.{Ref}
use Rattle.cells.specs.declared.block.Block.{Block}
use Rattle.cells.specs.Block.{MvPair}
use Rattle.cells.specs.Block.{RefPair}
use Rattle.stack.specs.declared.candidate.Candidate.{Candidate}
use Rattle.stack.specs.Stack.{State, with_cands, nobody, eq_pair}
use Rattle.search.specs.declared.extra.lists.Listed.{Listed}
use Rattle.search.specs.extra.Lists.{turned, lists_of}

-- RefIdMvs and RefDiffMvs of one reference, at most two each
pub record Gathered : Type 0 where
  pub same : List Mv
  pub other : List Mv

pub record Both : Type 0 where
  pub first : Gathered
  pub second : Gathered

abbrev pub empty : Gathered
empty = record { same = []; other = [] }

unfoldable pub nothing : Both
nothing = record { first = empty; second = empty }

unfoldable pub pushed : List Mv → Mv → List Mv
pushed l v = pick (ltb (length l) 2) (l ++ (v ∷ [])) l

-- to "same" as it is, or else to "other" turned
unfoldable pub put : Bool → Mv → Mv → Gathered → Gathered
put is_own own other g =
    pick is_own (record { same = pushed g.same own; other = g.other }) (record { same = g.same; other = pushed g.other other })

-- Each wanted reference takes every list. With references ( k, k ) the source never counts a list as the second's own.
abbrev pub own_of_first : Listed → RefPair → Bool
own_of_first l refs = eq_z l.reference.0 refs.first.0

abbrev pub own_of_second : Bool → Listed → Ref → Bool
own_of_second is_first l r = not is_first && eq_z l.reference.0 r.0

unfoldable pub gathered : List ℕ → RefPair → Listed → Both → Both
gathered biases refs l b =
    record {
      first = put (own_of_first l refs) l.mv (turned biases refs.first l) b.first;
      second = put (own_of_second (own_of_first l refs) l refs.second) l.mv (turned biases refs.second l) b.second;
    }

unfoldable pub gathered_all : List ℕ → RefPair → List Listed → Both → Both
gathered_all biases refs [] b = b
gathered_all biases refs (l ∷ ls) b = gathered_all biases refs ls (gathered biases refs l b)

unfoldable pub gathered_by : List ℕ → RefPair → Block → Both → Both
gathered_by biases refs k b = gathered_all biases refs (lists_of k) b

-- vector i of a reference, 0 or 1: its own first, then the others, then the global vector
unfoldable pub chosen : Gathered → Mv → ℕ → Mv
chosen g global i = get_or (g.same ++ (g.other ++ (global ∷ global ∷ []))) i zero

unfoldable pub pair_at : Both → MvPair → ℕ → MvPair
pair_at b global i = record { first = chosen b.first global.first i; second = chosen b.second global.second i }

abbrev pub least : MvPair → Candidate
least p = record { mv = p; weight = 2 }

-- None found: both pairs are taken. One found: the first pair, or the second where the first equals it.
unfoldable pub completed : MvPair → MvPair → State → State
completed p q s =
    with_cands s
    (pick (eqb (length s.cands) 0) (least p ∷ least q ∷ [])
    (s.cands ++ (least (pick (eq_pair (get_or s.cands 0 nobody).mv p) q p) ∷ [])))
