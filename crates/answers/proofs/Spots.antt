-- Two projections that agree on a block's cells give the same temporal process (7.10.2.5) and zero-motion context (7.10.2.6).
-- Assumes nothing.
use mathlib.Core.Path.{◌≡◌, refl, ap}
use mathlib.Core.Bool.{Bool, true, false}
use Prim.Native.Nat.{ℕ, zero, suc, ◌+◌, ◌-◌, ◌*◌, ◌/◌, ◌≤◌, ◌<◌}
use native.Mathlib.Nat.{suc-mul, zero-mul, add-zero}
use native.Mathlib.Omega.{arith}
use lib.Dec.{ltb}
use Rattle.ground.specs.Pick.{pick}
use Rattle.spatial.specs.declared.site.block.Site.{Site}
use Rattle.spatial.specs.site.Site.{limit_of}
use Rattle.spatial.specs.Code.Site.{Placed}
use Rattle.spatial.proofs.site.Sides.{limit-some}
use Rattle.stack.specs.Stack.{State}
use Rattle.stack.specs.Answered.{Outcome, found, on_found}
use Rattle.temporal.specs.declared.aim.Aim.{Aim}
use Rattle.temporal.specs.declared.aim.CellRead.{CellRead}
use Rattle.temporal.specs.declared.sweep.Field.{Field}
use Rattle.temporal.specs.Temporal.{zero_of}
use Rattle.temporal.specs.Sweep.{cell_swept, visit_of, in_row, in_grid, stride_along, cells_along, grid_of, has_corners, where_of, corners_of, temporal_of}
use Rattle.search.specs.Parts.{temporal_where, zero_where}
use Rattle.answers.specs.Reads.{own, below_left, below_right, right, SameSpots}

module _ (cells cells' : ℕ → CellRead) (a : Aim) where
  visit-of : (i : ℕ) (s : State) → cells i ≡ cells' i → visit_of cells a i s ≡ visit_of cells' a i s
  unfolding visit_of
  visit-of i s e = ap (cell_swept a s) e

  in-row : (step n i : ℕ) (s : State) → ((c : ℕ) → c < n → cells (i + c * step) ≡ cells' (i + c * step)) → in_row cells a step n i s ≡ in_row cells' a step n i s
  unfolding in_row
  in-row step zero i s same = refl
  in-row step (suc n) i s same =
      let first = rw (zero-mul step, add-zero i) at (same 0 (omega arith)) in
      let rest : (u : State) → in_row cells a step n (i + step) u ≡ in_row cells' a step n (i + step) u =
      λ u. in-row step n (i + step) u (λ c h. let e : i + step + c * step ≡ i + suc c * step = omega (arith, suc-mul c step) in rw e (same (suc c) (omega arith))) in
      λ j. on_found (visit-of i s first j) (λ u. rest u j)

  in-grid : (step n down m i : ℕ) (s : State) → ((r c : ℕ) → r < m → c < n → cells (i + r * down + c * step) ≡ cells' (i + r * down + c * step))
      → in_grid cells a step n down m i s ≡ in_grid cells' a step n down m i s
  unfolding in_grid
  in-grid step n down zero i s same = refl
  in-grid step n down (suc m) i s same =
      let first : (c : ℕ) → c < n → cells (i + c * step) ≡ cells' (i + c * step) =
      λ c h. rw (zero-mul down, add-zero i) at (same 0 c (omega arith) h) in
      let rest : (u : State) → in_grid cells a step n down m (i + down) u ≡ in_grid cells' a step n down m (i + down) u =
      λ u. in-grid step n down m (i + down) u (λ r c h l.
      let e : i + down + r * down + c * step ≡ i + suc r * down + c * step = omega (arith, suc-mul r down) in rw e (same (suc r) c (omega arith) l)) in
      λ j. on_found (in-row step n i s first j) (λ u. rest u j)

  where-of : (here : Bool) (i : ℕ) (o o' : Outcome) → (here ≡ true → cells i ≡ cells' i) → o ≡ o' → where_of here cells a i o ≡ where_of here cells' a i o'
  unfolding where_of
  where-of true i o o' same e = λ j. on_found (e j) (λ s. visit-of i s (same refl) j)
  where-of false i o o' same e = λ j. on_found (e j) found

  module _ (f : Field) (b : Site) (same : SameSpots f b cells cells') where
    grid-of : (s : State) → grid_of cells a f b s ≡ grid_of cells' a f b s
    unfolding grid_of
    grid-of s = in-grid _ _ _ _ f.first s (λ r c h l. same _ (own r c h l))

    corners-of : (o o' : Outcome) → has_corners b ≡ true → o ≡ o' → corners_of cells a f b o ≡ corners_of cells' a f b o'
    unfolding corners_of
    corners-of o o' h e =
        where-of _ _ _ _ (λ t. same _ (right h t))
        (where-of _ _ _ _ (λ t. same _ (below_right h t))
        (where-of _ _ _ _ (λ t. same _ (below_left h t)) e))

    temporal-of : (s : State) → temporal_of cells a f b s ≡ temporal_of cells' a f b s
    unfolding temporal_of
    temporal-of s = by (has_corners b) refl
      where
        by : (t : Bool) → has_corners b ≡ t
            → pick t (corners_of cells a f b (grid_of cells a f b s)) (grid_of cells a f b s) ≡ pick t (corners_of cells' a f b (grid_of cells' a f b s)) (grid_of cells' a f b s)
        by true h = corners-of (grid_of cells a f b s) (grid_of cells' a f b s) h (grid-of s)
        by false h = grid-of s

-- a side has a cell
along-some : (side limit : ℕ) → 1 ≤ limit → 1 ≤ cells_along limit (stride_along side)
unfolding cells_along stride_along
along-some side limit h = by (ltb side 16)
  where
    by : (t : Bool) → 1 ≤ ((limit + 1) / 2 + pick t 1 2 - 1) / pick t 1 2
    by true = omega arith
    by false = omega arith

module _ (cells cells' : ℕ → CellRead) (a : Aim) (f : Field) (b : Site) where
  pub temporal-where : (here : Bool) (s : State) → (here ≡ true → SameSpots f b cells cells')
      → temporal_where here cells a f b s ≡ temporal_where here cells' a f b s
  unfolding temporal_where
  temporal-where true s same = temporal-of cells cells' a f b (same refl) s
  temporal-where false s same = refl

  -- the block's first cell is its own
  first-same : Placed b → SameSpots f b cells cells' → cells f.first ≡ cells' f.first
  first-same p same =
      let rows = along-some b.h.0 (limit_of true b) (limit-some true b p) in
      let columns = along-some b.w.0 (limit_of false b) (limit-some false b p) in
      rw (zero-mul (stride_along b.h.0 * f.stride.0), zero-mul (stride_along b.w.0), add-zero f.first, add-zero f.first) at
      (same _ (own 0 0 rows columns))

  pub zero-where : (here : Bool) (header : ℕ) → Placed b → (here ≡ true → SameSpots f b cells cells')
      → zero_where here cells a f header ≡ zero_where here cells' a f header
  unfolding zero_where
  zero-where true header p same = ap (zero_of a header) (first-same p (same refl))
  zero-where false header p same = refl
