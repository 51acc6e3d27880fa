-- A record and a cell are what their bytes say.
-- Assumes nothing.
use Rattle.std.specs.Prelude.{Option, None, Some}
use mathlib.Core.Path.{◌≡◌, refl, ap}
use mathlib.Core.Bool.{Bool, true, false, not}
use mathlib.Core.List.{List}
use Prim.Native.Nat.{ℕ, ◌+◌, ◌*◌, ◌≤◌, ◌<◌}
use native.Mathlib.Omega.{arith}
use lib.Dec.{ltb}
use lib.ListN.{get_or}
use borrow.Author.Tests.{ltb-true}
use Rattle.ground.specs.Pick.{pick}
use Rattle.vector.specs.Vector.{mv_at}
use Rattle.cells.specs.declared.cell.Cell.{Cell}
use Rattle.cells.specs.Block.{block_at}
use Rattle.cells.specs.Cell.{cell_at, projected_absent, well_projected}
use Rattle.rows.specs.declared.table.RowEntry.{RowEntry}
use Rattle.rows.specs.Table.{place_at}
use Rattle.spatial.specs.declared.neighbours.read.NeighbourRead.TheVariants as read_as
use Rattle.spatial.specs.neighbours.Neighbour.{judged, record_at, in_row, read_at}
use Rattle.temporal.specs.declared.aim.CellRead.{CellRead}
use Rattle.temporal.specs.declared.aim.CellRead.TheVariants as cell_as
use Rattle.temporal.specs.Temporal.{cell_read}
use Rattle.answers.specs.Reads.{SameItem}

-- the four bytes of a vector
mv-same : (l m : List ℕ) (i : ℕ) → ((j : ℕ) → i ≤ j → j < i + 4 → get_or l j 0 ≡ get_or m j 0) → mv_at l i ≡ mv_at m i
mv-same l m i g =
    let y = g i (omega arith) (omega arith) in
    let x = g (i + 2) (omega arith) (omega arith) in
    rw (y, g (i + 1) (omega arith) (omega arith), x, g (i + 2 + 1) (omega arith) (omega arith))

block_same : (l m : List ℕ) (i : ℕ) → SameItem 12 l m i → block_at l i ≡ block_at m i
unfolding block_at
block_same l m i g =
    let v = mv-same l m (12 * i) (λ j h k. g j (omega arith) (omega arith)) in
    let w = mv-same l m (12 * i + 4) (λ j h k. g j (omega arith) (omega arith)) in
    let r = g (12 * i + 8) (omega arith) (omega arith) in
    let q = g (12 * i + 8 + 1) (omega arith) (omega arith) in
    rw (v, w, r, q, g (12 * i + 10) (omega arith) (omega arith), g (12 * i + 11) (omega arith) (omega arith))

pub read_same : (rows : List RowEntry) (recs recs' : List ℕ) (total e c : ℕ)
    → ((o : ℕ) → place_at rows e ≡ Some o → o + c < total → SameItem 12 recs recs' (o + c)) → read_at rows recs total e c ≡ read_at rows recs' total e c
unfolding read_at record_at
read_same rows recs recs' total e c same = by (place_at rows e) refl
  where
    listed : (o : ℕ) (t : Bool) → ltb (o + c) total ≡ t → (o + c < total → SameItem 12 recs recs' (o + c))
        → pick t (judged (block_at recs (o + c))) (read_as.Refused 4) ≡ pick t (judged (block_at recs' (o + c))) (read_as.Refused 4)
    listed o true h g = ap judged (block_same recs recs' (o + c) (g (ltb-true (o + c) total h)))
    listed o false h g = refl

    by : (p : Option ℕ) → place_at rows e ≡ p → in_row recs total c p ≡ in_row recs' total c p
    by None h = refl
    by (Some o) h = listed o (ltb (o + c) total) refl (same o h)

cell-is : (l m : List ℕ) (i : ℕ) → SameItem 5 l m i → cell_at l i ≡ cell_at m i
unfolding cell_at
cell-is l m i g =
    let v = mv-same l m (5 * i) (λ j h k. g j (omega arith) (omega arith)) in
    rw (v, g (5 * i + 4) (omega arith) (omega arith))

pub cell_same : (proj proj' : List ℕ) (total i : ℕ) → (i < total → SameItem 5 proj proj' i) → cell_read proj total i ≡ cell_read proj' total i
unfolding cell_read
cell_same proj proj' total i same = by (ltb i total) refl
  where
    judge : Cell → CellRead
    judge c = pick (not (well_projected c)) (cell_as.Refused 7) (pick (projected_absent c) cell_as.Absent (cell_as.Of c))

    by : (t : Bool) → ltb i total ≡ t
        → pick (not t) (cell_as.Refused 4) (judge (cell_at proj i)) ≡ pick (not t) (cell_as.Refused 4) (judge (cell_at proj' i))
    by true h = ap judge (cell-is proj proj' i (same (ltb-true i total h)))
    by false h = refl
