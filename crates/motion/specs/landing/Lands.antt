-- Where a saved cell lands in the projection: the projection process (7.9.2) with its position process (7.9.4), on signed places as the standard writes them.
use Rattle.std.specs.Prelude.{ℕ, ◌+◌, ◌-◌, ◌*◌, ◌/◌, ◌%◌, Bool, ◌&&◌, not, List, [], ◌∷◌, eqb, ℤ, pos, neg_ℤ, ◌+ℤ◌, nat_abs, get_or}
use Rattle.std.proofs.Math.IntN.{sub_ℕ}
use Rattle.std.specs.Int.Signed.{lt_z, le_z, quot_z}
use Rattle.ground.specs.Pick.{pick}
use Rattle.ground.specs.Script.{Patch}
use Rattle.vector.specs.declared.mv.Mv.{Mv}
use Rattle.vector.specs.Vector.{both}
use Rattle.vector.specs.Projection.{projected}
use Rattle.cells.specs.declared.cell.Cell.{Cell}
use Rattle.cells.specs.Cell.{saved_absent, cell_bytes}
use Rattle.motion.specs.declared.saving.area.Window.{Window}
use Rattle.motion.specs.declared.landing.land.Motion.{Motion}

-- refOffset: how far the reference that the cell's vector points to lies before the cell's own frame; 0 where it can't be projected
abbrev pub ref_offset : Motion → Cell → ℕ
ref_offset m c = get_or m.apart (nat_abs c.reference.0 - 1) 0

-- projMv, which decides where the cell lands
abbrev pub proj_mv : Motion → Cell → Mv
proj_mv m c = both (projected m.cur (ref_offset m c)) c.mv

-- v8 + dst_sign * ( delta / 64 ), the division towards zero; dst_sign is -1 where `back` is set
unfoldable pub moved : Bool → ℤ → ℕ → ℤ
moved back delta v8 = pos v8 +ℤ pick back (neg_ℤ (quot_z delta (pos 64))) (quot_z delta (pos 64))

abbrev pub row_to : Motion → Cell → ℕ → ℤ
row_to m c y = moved m.back (proj_mv m c).y y

abbrev pub col_to : Motion → Cell → ℕ → ℤ
col_to m c x = moved m.back (proj_mv m c).x x

-- the first place of v's group of 8
abbrev pub group : ℕ → ℕ
group v = v / 8 * 8

-- lo <= p < hi
abbrev pub between : ℤ → ℤ → ℤ → Bool
between lo hi p = le_z lo p && lt_z p hi

-- The place p of what stood at v8 lies from slack before v8's group of 8 to slack after it, and within start .. end.
unfoldable pub reaches : (slack start end v8 : ℕ) → ℤ → Bool
reaches slack start end v8 p = between (sub_ℕ (group v8) slack) (pos (group v8 + 8 + slack)) p && between (pos start) (pos end) p

-- a reference that isn't absent, and can be projected
unfoldable pub moves : Motion → Cell → Bool
moves m c = not (saved_absent c) && not (eqb (ref_offset m c) 0)

-- Whether the cell c at row y and column x lands: rows have no slack, columns have 8.
unfoldable pub lands : Window → Motion → ℕ → ℕ → Cell → Bool
lands w m y x c =
    moves m c && (reaches 0 w.top.0 w.bottom.0 y (row_to m c y) && reaches 8 w.left.0 w.right.0 x (col_to m c x))

-- what it leaves: its own vector, and the distance for a reference
abbrev pub leaves : Motion → Cell → Cell
leaves m c = record { mv = c.mv; reference = record { 0 = pos (ref_offset m c) } }

-- the projection's cell for row r and column q: rows are kept modulo 16
unfoldable pub spot : Window → ℕ → ℕ → ℕ
spot w r q = w.part + r % 16 * w.stride.0 + q

abbrev pub laid : ℕ → Cell → Patch
laid k c = record { at = 5 * k; bytes = cell_bytes c }

unfoldable pub landing : Window → Motion → ℕ → ℕ → Cell → List Patch
landing w m y x c = pick (lands w m y x c) (laid (spot w (nat_abs (row_to m c y)) (nat_abs (col_to m c x))) (leaves m c) ∷ []) []
