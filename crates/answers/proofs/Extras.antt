-- The extra search (7.10.2.12) begins with fewer than two candidates and lays more of the least weight behind them.
-- Assumes nothing.
use mathlib.Core.Path.{◌≡◌, refl}
use mathlib.Core.Bool.{Bool, true, false, ◌&&◌, not}
use mathlib.Core.List.{List, [], ◌∷◌, ◌++◌}
use Prim.Native.Nat.{ℕ, zero, suc, ◌+◌, ◌≤◌, ◌<◌}
use native.Mathlib.Omega.{arith}
use lib.Dec.{eqb, ltb, leb}
use lib.ListN.{length, get_or, length-append}
use borrow.Author.Tests.{ltb-true, leb-false}
use Rattle.ground.specs.Pick.{pick}
use Rattle.ground.proofs.Picks.{both}
use Rattle.cells.specs.declared.cell.Ref.{Ref}
use Rattle.cells.specs.declared.block.Block.{Block}
use Rattle.cells.specs.Block.{MvPair}
use Rattle.cells.specs.Block.{RefPair}
use Rattle.spatial.specs.declared.site.block.Site.{Site}
use Rattle.spatial.specs.site.Site.{depth_of}
use Rattle.spatial.specs.declared.neighbours.read.Neighbour.{Neighbour}
use Rattle.spatial.specs.declared.neighbours.read.NeighbourRead.{NeighbourRead}
use Rattle.spatial.specs.declared.neighbours.read.NeighbourRead.TheVariants.{Of, Refused}
use Rattle.spatial.specs.neighbours.Neighbour.{along_of, line_at}
use Rattle.stack.specs.declared.candidate.Candidate.{Candidate}
use Rattle.stack.specs.Stack.{State, nobody, eq_pair, stands, extended}
use Rattle.stack.specs.Stable.{Falling}
use Rattle.stack.specs.Answered.{Outcome, refused, found}
use Rattle.spatial.specs.around.Lines.{near_line}
use Rattle.search.specs.declared.extra.lists.Listed.{Listed}
use Rattle.cells.specs.Cell.{is_ref}
use Rattle.search.specs.extra.Lists.{lists_of, list_of, all_of, extended_by}
use Rattle.search.specs.extra.Pool.{nothing, pair_at, least, completed}
use Rattle.search.specs.extra.Walk.{Gathering, on_read, single_on, on_gathering}
use Rattle.search.specs.extra.Walk as walks
use Rattle.search.proofs.extra.Lengths.{two-more, completed-two}
use Rattle.search.specs.Extend.{extra_limit, single_where, single_extra, compound_where, completing, compound_extra, extra_of}
use Rattle.answers.specs.Sound.{AllGe, InParts}
use Rattle.answers.proofs.Least.{ge-append}
use Rattle.answers.proofs.Kept.{Kept}
use Rattle.answers.proofs.Swept.{Reached, on-found}
use Rattle.answers.proofs.Parts.{falling-behind, short-falls, parts-falling}

-- n candidates or more that fall in weight as a whole, to 2 at least
record Falls (n : ℕ) (l : List Candidate) : Type 0 where
  some : n ≤ length l
  heavy : AllGe 2 l
  falls : Falling l

-- one more of weight 2
falls-more : (n : ℕ) (l : List Candidate) (p : MvPair) → Falls n l → Falls n (l ++ (least p ∷ []))
falls-more n l p f =
    record {
      some = omega (arith, f.some, length-append l (least p ∷ []));
      heavy = ge-append 2 l (least p ∷ []) f.heavy (omega arith, tt);
      falls = falling-behind l (least p) f.falls f.heavy;
    }

falls-extended : (n : ℕ) (s : State) (p : MvPair) → Falls n s.cands → Falls n (extended s p).cands
unfolding extended
falls-extended n s p f = by (stands s.cands p)
  where
    by : (b : Bool) → Falls n (pick b s.cands (s.cands ++ (least p ∷ [])))
    by true = f
    by false = falls-more n s.cands p f

falls-all : (n : ℕ) (biases : List ℕ) (r : Ref) (ls : List Listed) (s : State) → Falls n s.cands → Falls n (all_of biases r ls s).cands
unfolding all_of list_of
falls-all n biases r [] s f = f
falls-all n biases r (l ∷ ls) s f = falls-all n biases r ls (list_of biases r l s) (falls-extended n s _ f)

falls-by : (n : ℕ) (biases : List ℕ) (r : Ref) (k : Block) (s : State) → Falls n s.cands → Falls n (extended_by biases r k s).cands
unfolding extended_by
falls-by n biases r k s f = falls-all n biases r (lists_of k) s f

-- two candidates out of fewer
falls-laid : (n : ℕ) (l : List Candidate) (p q o : MvPair) → length l < 2 → Falls n l
    → Falls n (pick (eqb (length l) 0) (least p ∷ least q ∷ []) (l ++ (least o ∷ [])))
falls-laid n [] p q o h f = falls-more n (least p ∷ []) q (falls-more n [] p f)
falls-laid n (x ∷ []) p q o h f = falls-more n (x ∷ []) o f
falls-laid n (x ∷ y ∷ l) p q o h f = absurd (omega arith)

falls-completed : (n : ℕ) (p q : MvPair) (s : State) → length s.cands < 2 → Falls n s.cands → Falls n (completed p q s).cands
unfolding completed
falls-completed n p q s h f = falls-laid n s.cands p q (pick (eq_pair (get_or s.cands 0 nobody).mv p) q p) h f

-- at most eight of them, all the same
record Ends (n : ℕ) (l : List Candidate) : Type 0 where
  falls : Falls n l
  few : length l ≤ 8

-- a single search, along a line and on both sides
module _ (m : ℕ) (biases : List ℕ) (r : Ref) where
  single-on : (nb : ℕ → NeighbourRead) (down : Bool) (limit n x : ℕ) (s : State) → Ends m s.cands → Reached (Ends m) (single_on nb down limit biases r n x s)
  unfolding single_on
  single-on nb down limit zero x s e = e
  single-on nb down limit (suc n) x s e =
      by (ltb x limit && ltb (length s.cands) 2) refl (nb x) (λ k. single-on nb down limit n (x + along_of down k) (extended_by biases r k.block s))
    where
      ends : (k : Neighbour) → length s.cands < 2 → Ends m (extended_by biases r k.block s).cands
      ends k h = record { falls = falls-by m biases r k.block s e.falls; few = omega (arith, two-more biases r k.block s) }

      by : (t : Bool) → (ltb x limit && ltb (length s.cands) 2) ≡ t → (o : NeighbourRead)
          → ((k : Neighbour) → Ends m (extended_by biases r k.block s).cands
          → Reached (Ends m) (single_on nb down limit biases r n (x + along_of down k) (extended_by biases r k.block s)))
          → Reached (Ends m) (pick t (on_read o (λ k. single_on nb down limit biases r n (x + along_of down k) (extended_by biases r k.block s))) (found s))
      by true h (Of k) g = g k (ends k (ltb-true (length s.cands) 2 (both (ltb x limit) (ltb (length s.cands) 2) h).1))
      by true h (Refused i) g = tt
      by false h o g = e

  single-where : (read : ℕ → ℕ → NeighbourRead) (b : Site) (down : Bool) (s : State) → Ends m s.cands → Reached (Ends m) (single_where read b down biases r s)
  unfolding single_where
  single-where read b down s e = by (eqb (depth_of down b) 0)
    where
      by : (t : Bool) → Reached (Ends m) (pick t (found s) (single_on (line_at read (near_line down b)) down (extra_limit b) biases r (extra_limit b) 0 s))
      by true = e
      by false = single-on (line_at read (near_line down b)) down (extra_limit b) (extra_limit b) 0 s e

  single-extra : (read : ℕ → ℕ → NeighbourRead) (b : Site) (s : State) → Ends m s.cands → Reached (Ends m) (single_extra read b biases r s)
  unfolding single_extra
  single-extra read b s e =
      on-found (Ends m) (Ends m) (single_where read b false biases r s) (single_where read b true biases r) (single-where read b false s e) (single-where read b true)

-- a compound pair, whatever was gathered
compound-extra : (m : ℕ) (read : ℕ → ℕ → NeighbourRead) (b : Site) (biases : List ℕ) (refs : RefPair) (g : MvPair) (s : State)
    → length s.cands < 2 → Ends m s.cands → Reached (Ends m) (compound_extra read b biases refs g s)
unfolding compound_extra
compound-extra m read b biases refs g s h e = by (on_gathering (compound_where read b false biases refs nothing) (compound_where read b true biases refs))
  where
    by : (w : Gathering) → Reached (Ends m) (completing g s w)
    by (walks.refused n) = tt
    by (walks.gathered p) =
        record {
          falls = falls-completed m (pair_at p g 0) (pair_at p g 1) s h e.falls;
          few = omega (arith, completed-two (pair_at p g 0) (pair_at p g 1) s h);
        }

-- what is clamped in the end
pub record Laid (n : ℕ) (l : List Candidate) : Type 0 where
  pub few : length l ≤ 8
  pub heavy : AllGe 2 l
  pub parts : InParts n l

laid : (m : ℕ) (o : Outcome) → Reached (Ends m) o → Reached (Laid m) o
laid m (refused n) e = tt
laid m (found s) e = record { few = e.few; heavy = e.falls.heavy; parts = parts-falling m s.cands e.falls.some e.falls.falls }

pub extra-of : (m : ℕ) (read : ℕ → ℕ → NeighbourRead) (b : Site) (biases : List ℕ) (refs : RefPair) (g : MvPair) (s : State)
    → Kept m s.cands → InParts m s.cands → Reached (Laid m) (extra_of read b biases refs g s)
unfolding extra_of
extra-of m read b biases refs g s k p = by (leb 2 (length s.cands)) refl (is_ref refs.first) (is_ref refs.second)
  where
    ends : length s.cands < 2 → Ends m s.cands
    ends h = record { falls = record { some = k.some; heavy = k.heavy; falls = short-falls s.cands h }; few = k.few }

    as_is : Laid m s.cands
    as_is = record { few = k.few; heavy = k.heavy; parts = p }

    by : (t : Bool) → leb 2 (length s.cands) ≡ t → (u v : Bool)
        → Reached (Laid m) (pick t (found s) (pick (not u) (found s) (pick v (compound_extra read b biases refs g s) (single_extra read b biases refs.first s))))
    by true h u v = as_is
    by false h false v = as_is
    by false h true true =
        let l = leb-false 2 (length s.cands) h in
        laid m (compound_extra read b biases refs g s) (compound-extra m read b biases refs g s l (ends l))
    by false h true false =
        laid m (single_extra read b biases refs.first s) (single-extra m biases refs.first read b s (ends (leb-false 2 (length s.cands) h)))
