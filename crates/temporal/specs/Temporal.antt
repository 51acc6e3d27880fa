-- One projected cell: its reading (refusals 4 and 7), the candidate that it becomes and the zero-motion context (7.10.2.6).
use Rattle.std.specs.Prelude.{ℕ, Bool, ◌||◌, not, List, ltb, leb, ℤ, neg_ℤ, ◌+ℤ◌, nat_abs}
use Rattle.ground.specs.Pick.{pick}
use Rattle.vector.specs.declared.mv.Mv.{Mv}
use Rattle.vector.specs.Vector.{zero, both}
use Rattle.vector.specs.Projection.{projected}
use Rattle.vector.specs.Precision.{lowered}
use Rattle.cells.specs.declared.cell.Cell.{Cell}
use Rattle.cells.specs.Block.{MvPair}
use Rattle.cells.specs.Cell.{cell_at, projected_absent, well_projected}
use Rattle.frame.specs.hints.Distances.{flag_of}
use Rattle.temporal.specs.declared.aim.Aim.{Aim}
use Rattle.temporal.specs.declared.aim.CellRead.{CellRead}
use Rattle.temporal.specs.declared.aim.CellRead.TheVariants.{Of, Absent, Refused}

-- Cell i of the projection; there are `total` listed cells.
unfoldable pub cell_read : List ℕ → ℕ → ℕ → CellRead
cell_read proj total i =
    pick (not (ltb i total)) (Refused 4)
    (pick (not (well_projected (cell_at proj i))) (Refused 7)
    (pick (projected_absent (cell_at proj i)) Absent (Of (cell_at proj i))))

-- projected from the kept distance to that of a reference (7.9.3), then lowered in precision (7.10.2.10)
unfoldable pub towards : ℤ → ℕ → Bool → Bool → Mv → Mv
towards num den integer hp v = both (lowered integer hp) (both (projected num den) v)

-- the candidate of a vector over the distance den: towards both references, or towards the one of a single search
unfoldable pub pair_of : Aim → ℕ → Mv → MvPair
pair_of a den v =
    record {
      first = towards a.first den a.integer a.hp v;
      second = pick a.compound (towards a.second den a.integer a.hp v) zero;
    }

abbrev pub candidate_of : Aim → Cell → MvPair
candidate_of a c = pair_of a (nat_abs c.reference.0) c.mv

-- 16 or more apart
unfoldable pub apart : ℤ → ℤ → Bool
apart a b = leb 16 (nat_abs (a +ℤ neg_ℤ b))

unfoldable pub far_of : Mv → Mv → Bool
far_of v g = apart v.y g.y || apart v.x g.x

-- The zero-motion context by the block's first cell: 1 where its candidate is far from the global vector, else 0; where the cell is absent it stays at the
-- header's flag.
unfoldable pub zero_of : Aim → ℕ → CellRead → ℕ
zero_of a header (Of c) = flag_of (far_of (candidate_of a c).first a.gmv)
zero_of a header Absent = header
zero_of a header (Refused n) = header
