-- A search looks at its block's places and cells, and at nothing else.
-- Assumes nothing.
use mathlib.Core.Path.{◌≡◌, sym, ◌∙◌}
use mathlib.Core.Bool.{Bool, true}
use mathlib.Core.List.{List}
use Prim.Native.Nat.{ℕ, ◌+◌, ◌<◌}
use lib.Dec.{eqb}
use lib.ListN.{length}
use Rattle.frame.specs.declared.record.Frame.{Frame}
use Rattle.frame.specs.extent.Sizes.{records, projected_cells}
use Rattle.rows.specs.Setup.{Tile}
use Rattle.spatial.specs.Code.Site.{Placed}
use Rattle.spatial.specs.declared.neighbours.read.NeighbourRead.{NeighbourRead}
use Rattle.spatial.specs.neighbours.Neighbour.{read_at}
use Rattle.stack.specs.Stack.{State, raised}
use Rattle.stack.specs.Sort.{ordered}
use Rattle.stack.specs.Clamp.{clamped}
use Rattle.temporal.specs.declared.aim.CellRead.{CellRead}
use Rattle.temporal.specs.declared.sweep.Field.{Field}
use Rattle.temporal.specs.Temporal.{cell_read}
use Rattle.cells.specs.Cell.{is_ref}
use Rattle.search.specs.declared.front.ask.Ask.{Ask}
use Rattle.search.specs.front.Ask.{find_front, want_of, global_of, site_of}
use Rattle.search.specs.front.Context.{matches_of, context_of}
use Rattle.search.proofs.front.Fronts.{passed, site-placed}
use Rattle.search.specs.Parts.{aim_of, field_of}
use Rattle.search.specs.Extend.{biases_of}
use Rattle.search.specs.Find.{got, after_went, after_found, reach_of, concluded, timed, gone_on, search_of, find_of}
use Rattle.search.proofs.Finds.{fronts}
use Rattle.answers.specs.Reads.{Spot, SamePlaces, SameSpots, Seen, seen, SameItem}
use Rattle.answers.proofs.Places.{near-all, far-all, extra-of}
use Rattle.answers.proofs.Spots.{temporal-where, zero-where}
use Rattle.answers.proofs.Items.{read_same, cell_same}

-- the block's place in the projection
abbrev field_at : Frame → Tile → Ask → Field
field_at f t a = field_of f.sizes t (site_of t a)

-- the records of a block's places read the same, and its cells where the temporal process looks at them
module _ (read read' : ℕ → ℕ → NeighbourRead) (cells cells' : ℕ → CellRead) (f : Frame) (t : Tile) (a : Ask) (placed : Placed (site_of t a)) where
  module _ (places : SamePlaces (site_of t a) read read') (spots : timed f ≡ true → SameSpots (field_at f t a) (site_of t a) cells cells') where
    same_end : (still count matched : ℕ) (newmv : Bool) (all : State)
        → concluded read f t a still count matched newmv all ≡ concluded read' f t a still count matched newmv all
    unfolding concluded
    same_end still count matched newmv all = λ i.
        after_found (extra-of read read' (site_of t a) placed places (biases_of f) a.refs (global_of a) (ordered count all) i) (λ s.
        got
        (record {
          context = context_of (is_ref a.refs.second) matched (matches_of all) newmv still;
          cands = (clamped (reach_of f.sizes (site_of t a)) s).cands;
          fill = (global_of a).first;
        }))

    same-on : (s : State) (above left : ℕ) → gone_on read cells f t a s above left ≡ gone_on read' cells' f t a s above left
    unfolding gone_on
    same-on s above left =
        let still = zero-where cells cells' (aim_of f a) (field_at f t a) (site_of t a) (timed f) f.temporal placed spots in
        λ i.
        after_found (temporal-where cells cells' (aim_of f a) (field_at f t a) (site_of t a) (timed f) (raised 640 s) spots i) (λ u.
        after_went (far-all read read' (site_of t a) placed places (want_of a) above left u i) (λ v r c. same_end (still i) (length s.cands) (matches_of s) s.newmv v i))

    pub same_reads : search_of read cells f t a ≡ search_of read' cells' f t a
    unfolding search_of
    same_reads = λ i.
        after_went (near-all read read' (site_of t a) placed places (want_of a) (eqb a.decoded 1) i) (λ s above left. same-on s above left i)

-- the same over lent bytes, both long enough
module _ (f : Frame) (t : Tile) (recs recs' proj proj' : List ℕ) (a : Ask) where
  abbrev total : ℕ
  total = records f.sizes

  abbrev total_cells : ℕ
  total_cells = projected_cells f.sizes

  module _ (e : find_front f t a (length recs) (length proj) ≡ 0) (e' : find_front f t a (length recs') (length proj') ≡ 0) where
    pub same-records : SamePlaces (site_of t a) (read_at t.rows recs total) (read_at t.rows recs' total)
        → (timed f ≡ true → SameSpots (field_at f t a) (site_of t a) (cell_read proj total_cells) (cell_read proj' total_cells))
        → find_of f t recs proj a ≡ find_of f t recs' proj' a
    same-records places spots =
        let p = passed f t a (length recs) (length proj) e in
        sym (fronts f t recs proj a e)
        ∙ same_reads (read_at t.rows recs total) (read_at t.rows recs' total) (cell_read proj total_cells) (cell_read proj' total_cells) f t a
        (site-placed f t a p.well p.asked) places spots
        ∙ fronts f t recs' proj' a e'

    -- whatever else the two lists of records hold, and the two projections
    pub same_bytes : ((i : ℕ) → Seen t.rows total (site_of t a) i → SameItem 12 recs recs' i)
        → (timed f ≡ true → (i : ℕ) → Spot (field_at f t a) (site_of t a) i → i < total_cells → SameItem 5 proj proj' i)
        → find_of f t recs proj a ≡ find_of f t recs' proj' a
    same_bytes blocks cells =
        same-records
        (λ k c p. read_same t.rows recs recs' total k c (λ o q h. blocks (o + c) (seen k c o p q h)))
        (λ on i p. cell_same proj proj' total_cells i (cells on i p))
