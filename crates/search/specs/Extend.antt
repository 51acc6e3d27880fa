-- The extra search process (7.10.2.12) over a block's two sides: above, then to the left.
use Rattle.std.specs.Prelude.{ℕ, min, Bool, true, false, not, List, eqb, leb, length, get_or}
use Rattle.ground.specs.Pick.{pick}
use Rattle.cells.specs.declared.cell.Ref.{Ref}
use Rattle.cells.specs.Block.{MvPair}
use Rattle.cells.specs.Block.{RefPair}
use Rattle.frame.specs.declared.record.Frame.{Frame}
use Rattle.frame.specs.hints.Distances.{seven}
use Rattle.frame.specs.Record.{no_hint}
use Rattle.spatial.specs.declared.site.block.Site.{Site}
use Rattle.spatial.specs.site.Site.{limit_of, depth_of}
use Rattle.spatial.specs.declared.neighbours.read.NeighbourRead.{NeighbourRead}
use Rattle.spatial.specs.neighbours.Neighbour.{line_at}
use Rattle.spatial.specs.around.Lines.{near_line}
use Rattle.stack.specs.Stack.{State}
use Rattle.stack.specs.Answered.{Outcome, refused, found, on_found}
use Rattle.cells.specs.Cell.{is_ref}
use Rattle.search.specs.extra.Pool.{Both, nothing, pair_at, completed}
use Rattle.search.specs.extra.Walk.{Gathering, single_on, compound_on, on_gathering}
use Rattle.search.specs.extra.Walk as walks

-- the sign biases of the seven references
unfoldable pub bias_at : Frame → ℕ → ℕ
bias_at f i = (get_or f.refs i no_hint).sign_bias

unfoldable pub biases_of : Frame → List ℕ
biases_of f = seven (bias_at f)

-- the offset stays below both sides' limits
unfoldable pub extra_limit : Site → ℕ
extra_limit b = min (limit_of false b) (limit_of true b)

-- one side; there is none at the tile's edge
unfoldable pub single_where : (ℕ → ℕ → NeighbourRead) → Site → Bool → List ℕ → Ref → State → Outcome
single_where read b down biases r s =
    pick (eqb (depth_of down b) 0) (found s)
    (single_on (line_at read (near_line down b)) down (extra_limit b) biases r (extra_limit b) 0 s)

unfoldable pub single_extra : (ℕ → ℕ → NeighbourRead) → Site → List ℕ → Ref → State → Outcome
single_extra read b biases r s = on_found (single_where read b false biases r s) (single_where read b true biases r)

unfoldable pub compound_where : (ℕ → ℕ → NeighbourRead) → Site → Bool → List ℕ → RefPair → Both → Gathering
compound_where read b down biases refs p =
    pick (eqb (depth_of down b) 0) (walks.gathered p)
    (compound_on (line_at read (near_line down b)) down (extra_limit b) biases refs (extra_limit b) 0 p)

-- what both sides gathered makes two candidates
abbrev pub completing : MvPair → State → Gathering → Outcome
completing g s (walks.refused n) = refused n
completing g s (walks.gathered p) = found (completed (pair_at p g 0) (pair_at p g 1) s)

unfoldable pub compound_extra : (ℕ → ℕ → NeighbourRead) → Site → List ℕ → RefPair → MvPair → State → Outcome
compound_extra read b biases refs g s =
    completing g s (on_gathering (compound_where read b false biases refs nothing) (compound_where read b true biases refs))

-- for fewer than two candidates, and a reference
unfoldable pub extra_of : (ℕ → ℕ → NeighbourRead) → Site → List ℕ → RefPair → MvPair → State → Outcome
extra_of read b biases refs g s =
    pick (leb 2 (length s.cands)) (found s)
    (pick (not (is_ref refs.first)) (found s)
    (pick (is_ref refs.second) (compound_extra read b biases refs g s) (single_extra read b biases refs.first s)))
