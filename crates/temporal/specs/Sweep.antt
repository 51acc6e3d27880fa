-- The temporal scan process (7.10.2.5): which cells a block's search looks at, in order, and what they leave on the stack.
use Rattle.std.specs.Prelude.{ℕ, zero, suc, ◌+◌, ◌-◌, ◌*◌, ◌/◌, min, Bool, true, false, ◌&&◌, ltb, leb}
use Rattle.ground.specs.Pick.{pick}
use Rattle.spatial.specs.declared.site.block.Site.{Site}
use Rattle.spatial.specs.site.Site.{limit_of}
use Rattle.stack.specs.Stack.{State, joined}
use Rattle.stack.specs.Answered.{Outcome, refused, found, on_found}
use Rattle.temporal.specs.declared.aim.Aim.{Aim}
use Rattle.temporal.specs.declared.aim.CellRead.{CellRead}
use Rattle.temporal.specs.declared.aim.CellRead.TheVariants.{Of, Absent, Refused}
use Rattle.temporal.specs.declared.sweep.Field.{Field}
use Rattle.temporal.specs.Temporal.{candidate_of}

-- a cell that is read: absent leaves nothing, else its candidate joins with weight 2
abbrev pub cell_swept : Aim → State → CellRead → Outcome
cell_swept a s (Of c) = found (joined s (candidate_of a c) 2)
cell_swept a s Absent = found s
cell_swept a s (Refused n) = refused n

unfoldable pub visit_of : (ℕ → CellRead) → Aim → ℕ → State → Outcome
visit_of cells a i s = cell_swept a s (cells i)

-- n cells from cell i on, `step` apart; and m such rows, `down` apart
unfoldable pub in_row : (ℕ → CellRead) → Aim → (step n i : ℕ) → State → Outcome
in_row cells a step zero i s = found s
in_row cells a step (suc n) i s = on_found (visit_of cells a i s) (in_row cells a step n (i + step))

unfoldable pub in_grid : (ℕ → CellRead) → Aim → (step n down m i : ℕ) → State → Outcome
in_grid cells a step n down zero i s = found s
in_grid cells a step n down (suc m) i s = on_found (in_row cells a step n i s) (in_grid cells a step n down m (i + down))

-- A side of 16 units or more has every other cell looked at.
unfoldable pub stride_along : ℕ → ℕ
stride_along side = pick (ltb side 16) 1 2

-- of the cells below the limit, a part of one counting whole
unfoldable pub cells_along : ℕ → ℕ → ℕ
cells_along limit step = ((limit + 1) / 2 + step - 1) / step

-- the block's own cells, by row, then column
unfoldable pub grid_of : (ℕ → CellRead) → Aim → Field → Site → State → Outcome
grid_of cells a f b s =
    in_grid cells a (stride_along b.w.0) (cells_along (limit_of false b) (stride_along b.w.0))
    (stride_along b.h.0 * f.stride.0) (cells_along (limit_of true b) (stride_along b.h.0)) f.first s

-- Three more, where both sides are 2 to 15 units: below left, below right, right. Each lies in the tile and in the block's own group of 8 x 8 cells, 64 x 64
-- samples.
unfoldable pub has_corners : Site → Bool
has_corners b = leb 2 b.w.0 && leb 2 b.h.0 && ltb b.w.0 16 && ltb b.h.0 16

unfoldable pub cell_of : Bool → Site → ℕ
cell_of down b = pick down (b.y.0 / 2) (b.x.0 / 2)

unfoldable pub end_of : Bool → Site → ℕ
end_of down b = min (pick down b.row.end.0 b.col.end.0 / 2) (cell_of down b / 8 * 8 + 8)

-- the cell n behind the block's first one, along an axis
unfoldable pub there : Bool → Site → ℕ → Bool
there down b n = ltb (cell_of down b + n) (end_of down b)

-- the cell to the left of the first one
unfoldable pub leftward : Site → Bool
leftward b = ltb (b.col.start.0 / 2) (cell_of false b) && ltb (cell_of false b / 8 * 8) (cell_of false b)

unfoldable pub where_of : Bool → (ℕ → CellRead) → Aim → ℕ → Outcome → Outcome
where_of here cells a i r = on_found r (λ s. pick here (visit_of cells a i s) (found s))

-- bw8 and bh8 are the block's sides in cells
unfoldable pub corners_of : (ℕ → CellRead) → Aim → Field → Site → Outcome → Outcome
corners_of cells a f b r =
    where_of (there false b (b.w.0 / 2) && there true b (b.h.0 / 2 - 1)) cells a (f.first + b.h.0 / 2 * f.stride.0 + b.w.0 / 2 - f.stride.0)
    (where_of (there false b (b.w.0 / 2) && there true b (b.h.0 / 2)) cells a (f.first + b.h.0 / 2 * f.stride.0 + b.w.0 / 2)
    (where_of (there true b (b.h.0 / 2) && leftward b) cells a (f.first + b.h.0 / 2 * f.stride.0 - 1) r))

unfoldable pub temporal_of : (ℕ → CellRead) → Aim → Field → Site → State → Outcome
temporal_of cells a f b s = pick (has_corners b) (corners_of cells a f b (grid_of cells a f b s)) (grid_of cells a f b s)
