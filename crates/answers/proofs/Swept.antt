-- The temporal process (7.10.2.5) keeps them too.
-- Assumes nothing.
use mathlib.Core.Bool.{Bool, true, false}
use mathlib.Core.List.{List}
use Prim.Native.Nat.{ℕ, zero, suc, ◌+◌}
use native.Mathlib.Omega.{arith}
use Rattle.ground.specs.Pick.{pick}
use Rattle.spatial.specs.declared.site.block.Site.{Site}
use Rattle.stack.specs.declared.candidate.Candidate.{Candidate}
use Rattle.stack.specs.Stack.{State}
use Rattle.stack.specs.Answered.{Outcome, refused, found, on_found}
use Rattle.temporal.specs.declared.aim.Aim.{Aim}
use Rattle.temporal.specs.declared.aim.CellRead.{CellRead}
use Rattle.temporal.specs.declared.aim.CellRead.TheVariants.{Of, Absent, Refused}
use Rattle.temporal.specs.declared.sweep.Field.{Field}
use Rattle.temporal.specs.Temporal.{candidate_of}
use Rattle.temporal.specs.Sweep.{cell_swept, visit_of, in_row, in_grid, grid_of, has_corners, where_of, corners_of, temporal_of}
use Rattle.search.specs.Parts.{temporal_where}
use Rattle.answers.proofs.Kept.{Kept, keeps-joined}

-- what has been found, where there was no refusal
abbrev pub Reached : (List Candidate → Type 0) → Outcome → Type 0
Reached P (refused n) = Unit
Reached P (found s) = P s.cands

pub on-found : (P Q : List Candidate → Type 0) (o : Outcome) (f : State → Outcome) → Reached P o
    → ((s : State) → P s.cands → Reached Q (f s)) → Reached Q (on_found o f)
on-found P Q (refused n) f k g = tt
on-found P Q (found s) f k g = g s k

module _ (m : ℕ) (cells : ℕ → CellRead) (a : Aim) where
  visit-of : (i : ℕ) (s : State) → Kept m s.cands → Reached (Kept m) (visit_of cells a i s)
  unfolding visit_of
  visit-of i s k = by (cells i)
    where
      by : (r : CellRead) → Reached (Kept m) (cell_swept a s r)
      by (Of c) = keeps-joined m s (candidate_of a c) 2 k (omega arith)
      by Absent = k
      by (Refused n) = tt

  in-row : (step n i : ℕ) (s : State) → Kept m s.cands → Reached (Kept m) (in_row cells a step n i s)
  unfolding in_row
  in-row step zero i s k = k
  in-row step (suc n) i s k =
      on-found (Kept m) (Kept m) (visit_of cells a i s) (in_row cells a step n (i + step)) (visit-of i s k) (in-row step n (i + step))

  in-grid : (step n down r i : ℕ) (s : State) → Kept m s.cands → Reached (Kept m) (in_grid cells a step n down r i s)
  unfolding in_grid
  in-grid step n down zero i s k = k
  in-grid step n down (suc r) i s k =
      on-found (Kept m) (Kept m) (in_row cells a step n i s) (in_grid cells a step n down r (i + down)) (in-row step n i s k) (in-grid step n down r (i + down))

  where-of : (here : Bool) (i : ℕ) (o : Outcome) → Reached (Kept m) o → Reached (Kept m) (where_of here cells a i o)
  unfolding where_of
  where-of here i o k = on-found (Kept m) (Kept m) o _ k (by here)
    where
      by : (t : Bool) (s : State) → Kept m s.cands → Reached (Kept m) (pick t (visit_of cells a i s) (found s))
      by true s h = visit-of i s h
      by false s h = h

  temporal-of : (f : Field) (b : Site) (s : State) → Kept m s.cands → Reached (Kept m) (temporal_of cells a f b s)
  unfolding temporal_of corners_of grid_of
  temporal-of f b s k = by (has_corners b) (grid_of cells a f b s) (in-grid _ _ _ _ f.first s k)
    where
      by : (t : Bool) (o : Outcome) → Reached (Kept m) o → Reached (Kept m) (pick t (corners_of cells a f b o) o)
      by true o h = where-of _ _ _ (where-of _ _ _ (where-of _ _ o h))
      by false o h = h

  pub temporal-where : (here : Bool) (f : Field) (b : Site) (s : State) → Kept m s.cands → Reached (Kept m) (temporal_where here cells a f b s)
  unfolding temporal_where
  temporal-where true f b s k = temporal-of f b s k
  temporal-where false f b s k = k
