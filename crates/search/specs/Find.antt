-- The motion vector prediction processes in their order (7.10.2), from the front of a search to its answer.
use Rattle.std.specs.Prelude.{ℕ, ◌+◌, ◌-◌, ◌*◌, Bool, not, List, eqb, length}
use Rattle.ground.specs.Pick.{pick}
use Rattle.vector.specs.declared.mv.Mv.{Mv}
use Rattle.frame.specs.declared.extent.sizes.Sizes.{Sizes}
use Rattle.frame.specs.declared.record.Frame.{Frame}
use Rattle.frame.specs.extent.Sizes.{records, projected_cells}
use Rattle.rows.specs.Setup.{Tile}
use Rattle.spatial.specs.declared.site.block.Site.{Site}
use Rattle.spatial.specs.declared.neighbours.read.NeighbourRead.{NeighbourRead}
use Rattle.spatial.specs.neighbours.Neighbour.{read_at}
use Rattle.spatial.specs.around.Around.{Went, near_all, far_all}
use Rattle.spatial.specs.around.Around as around
use Rattle.stack.specs.declared.candidate.Candidate.{Candidate}
use Rattle.stack.specs.declared.clamp.Reach.{Reach}
use Rattle.stack.specs.Stack.{State, raised}
use Rattle.stack.specs.Sort.{ordered}
use Rattle.stack.specs.Clamp.{clamped}
use Rattle.stack.specs.Answered.{Outcome}
use Rattle.stack.specs.Answered as answered
use Rattle.temporal.specs.declared.aim.CellRead.{CellRead}
use Rattle.temporal.specs.Temporal.{cell_read}
use Rattle.cells.specs.Cell.{is_ref}
use Rattle.search.specs.declared.front.ask.Ask.{Ask}
use Rattle.search.specs.front.Ask.{find_front, want_of, global_of, site_of}
use Rattle.search.specs.Parts.{aim_of, field_of, temporal_where, zero_where}
use Rattle.search.specs.Extend.{biases_of, extra_of}
use Rattle.search.specs.front.Context.{matches_of, context_of}

-- The candidates, the context, and the vector that a single search has in the slots below two that no candidate takes.
pub record Finding : Type 0 where
  pub context : ℕ
  pub cands : List Candidate
  pub fill : Mv

pub data SearchOutcome : Type 0 where
  refused : ℕ → SearchOutcome
  got : Finding → SearchOutcome

-- a part of the search that is refused refuses all of it
abbrev pub after_went : Went → (State → ℕ → ℕ → SearchOutcome) → SearchOutcome
after_went (around.refused n) f = refused n
after_went (around.on s above left) f = f s above left

abbrev pub after_found : Outcome → (State → SearchOutcome) → SearchOutcome
after_found (answered.refused n) f = refused n
after_found (answered.found s) f = f s

-- how far a vector may point: four units and the block's own size past the frame's near edges, four units past its far ones (MV_BORDER)
unfoldable pub reach_of : Sizes → Site → Reach
reach_of z b =
    record {
      up = 32 * (b.y.0 + b.h.0 + 4);
      down = 32 * (z.ih4.0 - b.y.0 + 4);
      left = 32 * (b.x.0 + b.w.0 + 4);
      right = 32 * (z.iw4.0 - b.x.0 + 4);
    }

-- Sorting, the extra search, context and clamping. Of the near neighbours: how many candidates they gave, on how many sides they matched, and whether one of
-- their modes has a new vector; `all` is what all of them found, `still` the zero-motion context.
unfoldable pub concluded : (ℕ → ℕ → NeighbourRead) → Frame → Tile → Ask → (still count matched : ℕ) → Bool → State → SearchOutcome
concluded read f t a still count matched newmv all =
    after_found (extra_of read (site_of t a) (biases_of f) a.refs (global_of a) (ordered count all)) (λ s.
    got
    (record {
      context = context_of (is_ref a.refs.second) matched (matches_of all) newmv still;
      cands = (clamped (reach_of f.sizes (site_of t a)) s).cands;
      fill = (global_of a).first;
    }))

abbrev pub timed : Frame → Bool
timed f = not (eqb f.use_ref_frame_mvs 0)

-- From the near neighbours on: each of their candidates gains 640; the temporal process; the point above left and the far lines.
unfoldable pub gone_on : (ℕ → ℕ → NeighbourRead) → (ℕ → CellRead) → Frame → Tile → Ask → State → (above left : ℕ) → SearchOutcome
gone_on read cells f t a s above left =
    after_found (temporal_where (timed f) cells (aim_of f a) (field_of f.sizes t (site_of t a)) (site_of t a) (raised 640 s)) (λ u.
    after_went (far_all read (site_of t a) above left (want_of a) u) (λ v r c.
    concluded read f t a (zero_where (timed f) cells (aim_of f a) (field_of f.sizes t (site_of t a)) f.temporal)
    (length s.cands) (matches_of s) s.newmv v))

unfoldable pub search_of : (ℕ → ℕ → NeighbourRead) → (ℕ → CellRead) → Frame → Tile → Ask → SearchOutcome
search_of read cells f t a =
    after_went (near_all read (site_of t a) (eqb a.decoded 1) (want_of a)) (gone_on read cells f t a)

-- what is refused before anything is read, then the search over the lent records and cells
unfoldable pub find_of : Frame → Tile → (recs proj : List ℕ) → Ask → SearchOutcome
find_of f t recs proj a =
    pick (eqb (find_front f t a (length recs) (length proj)) 0)
    (search_of (read_at t.rows recs (records f.sizes)) (cell_read proj (projected_cells f.sizes)) f t a)
    (refused (find_front f t a (length recs) (length proj)))
