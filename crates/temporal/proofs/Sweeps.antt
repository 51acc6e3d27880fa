-- What a sweep leaves, turn by turn, and the numbers of the cells that it looks at.
-- Assumes nothing.
use mathlib.Core.Path.{◌≡◌, refl, sym, ap, ap₂, ◌∙◌}
use mathlib.Core.Bool.{Bool, true, false, not}
use mathlib.Core.List.{List}
use mathlib.Core.Logic.{◌⊎◌, inl, inr}
use Prim.Native.Nat.{ℕ, zero, suc, ◌+◌, ◌-◌, ◌*◌, ◌/◌, ◌≤◌, ◌<◌}
use native.Mathlib.Nat.{lt_irrefl, mul-le-mul, mul-le-mul_right}
use native.Mathlib.Omega.{arith}
use Rattle.std.specs.Int.{div_ceil}
use lib.Dec.{ltb, leb}
use borrow.Author.Tests.{leb-true, ltb-true}
use Rattle.ground.specs.Pick.{pick}
use Rattle.ground.proofs.Picks.{both}
use Rattle.cells.specs.declared.cell.Cell.{Cell}
use Rattle.cells.specs.Block.{MvPair}
use Rattle.cells.specs.Cell.{cell_at, well_projected, projected_absent}
use Rattle.frame.specs.extent.Sizes.{most_cells}
use Rattle.spatial.specs.declared.site.block.Site.{Site}
use Rattle.spatial.specs.Code.Site.{Placed}
use Rattle.stack.specs.Stack.{State, joined}
use Rattle.stack.specs.Code.Found.{Found, view, outcome}
use Rattle.temporal.specs.declared.aim.Aim.{Aim}
use Rattle.temporal.specs.declared.aim.CellRead.{CellRead}
use Rattle.temporal.specs.declared.aim.CellRead.TheVariants.{Of, Absent, Refused}
use Rattle.temporal.specs.declared.sweep.Field.{Field}
use Rattle.temporal.specs.Temporal.{cell_read, candidate_of}
use Rattle.stack.specs.Answered.{Outcome, refused, found, on_found}
use Rattle.stack.proofs.Answers.{is_found, is-refused}
use Rattle.temporal.specs.Sweep.{cell_swept, visit_of, in_row, in_grid, where_of, cells_along, has_corners, cell_of}
use Rattle.temporal.specs.Code.Sweep.{Fielded}

-- a refusal's number is not 0
read-refused : (l : List ℕ) (total i n : ℕ) → cell_read l total i ≡ Refused n → 1 ≤ n
unfolding cell_read
read-refused l total i n e = by (not (ltb i total)) (not (well_projected (cell_at l i))) (projected_absent (cell_at l i)) e
  where
    by : (s w a : Bool) → pick s (Refused 4) (pick w (Refused 7) (pick a Absent (Of (cell_at l i)))) ≡ Refused n → 1 ≤ n
    by true w a e = let k : 4 ≡ n = cc in omega arith
    by false true a e = let k : 7 ≡ n = cc in omega arith
    by false false true e = let k : ◌≡◌ {A = ℕ} 0 1 = cc in omega arith
    by false false false e = let k : ◌≡◌ {A = ℕ} 0 1 = cc in omega arith

-- one cell, by what was read
module _ (l : List ℕ) (total i : ℕ) (a : Aim) (s : Found) where
  pub visit-refused : {n : ℕ} {q : CellRead} → q ≡ cell_read l total i → q ≡ Refused n → outcome n s ≡ visit_of (cell_read l total) a i (view s)
  unfolding visit_of
  visit-refused {n} e t =
      let k = read-refused l total i n (sym e ∙ t) in
      is-refused n s (λ z. lt_irrefl 0 (omega arith)) ∙ ap (cell_swept a (view s)) (sym t ∙ e)

  pub visit-absent : {q : CellRead} → q ≡ cell_read l total i → q ≡ Absent → outcome 0 s ≡ visit_of (cell_read l total) a i (view s)
  unfolding visit_of
  visit-absent e t = is_found 0 s refl ∙ ap (cell_swept a (view s)) (sym t ∙ e)

  pub visit-joined : {c : Cell} {p : MvPair} {q : CellRead} (r : Found) → q ≡ cell_read l total i → q ≡ Of c
      → p ≡ candidate_of a c → view r ≡ joined (view s) p 2
      → outcome 0 r ≡ visit_of (cell_read l total) a i (view s)
  unfolding visit_of
  visit-joined r e t k j = is_found 0 r refl ∙ ap found (j ∙ ap (λ (x : MvPair). joined (view s) x 2) k) ∙ ap (cell_swept a (view s)) (sym t ∙ e)

-- What a row of cells and a grid of rows have in common: `one` at i, then on from i + step.
pub record Turns (go : ℕ → ℕ → State → Outcome) (one : ℕ → State → Outcome) (step : ℕ) : Type 0 where
  pub none : (i : ℕ) (s : State) → go 0 i s ≡ found s
  pub more : (n i : ℕ) (s : State) → go (suc n) i s ≡ on_found (one i s) (go n (i + step))

pub row-turns : (cells : ℕ → CellRead) (a : Aim) (step : ℕ) → Turns (in_row cells a step) (visit_of cells a) step
unfolding in_row
row-turns cells a step = record { none = λ i s. refl; more = λ n i s. refl }

pub grid-turns : (cells : ℕ → CellRead) (a : Aim) (step n down : ℕ) → Turns (in_grid cells a step n down) (in_row cells a step n) down
unfolding in_grid
grid-turns cells a step n down = record { none = λ i s. refl; more = λ m i s. refl }

-- A loop over them is at its turn k: o is what the definition leaves from there on, in n - k turns.
pub record Left (go : ℕ → ℕ → State → Outcome) (step n first k : ℕ) (o : Outcome) (s : State) : Type 0 where
  pub is : o ≡ go (n - k) (first + k * step) s

pub turns-begin : (go : ℕ → ℕ → State → Outcome) (step n first : ℕ) (s : State) → Left go step n first 0 (go n first s) s
turns-begin go step n first s =
    let a : n ≡ n - 0 = omega arith in
    let b : first ≡ first + 0 * step = omega arith in
    record { is = ap₂ (λ (m i : ℕ). go m i s) a b }

module _ {go : ℕ → ℕ → State → Outcome} {one : ℕ → State → Outcome} {step n first k : ℕ} {o : Outcome} {s : State} (t : Turns go one step) (p : Left go step n first k o s) where
  pub turns-end : n ≤ k → o ≡ found s
  turns-end h = let e : n - k ≡ 0 = omega arith in p.is ∙ ap (λ (m : ℕ). go m (first + k * step) s) e ∙ t.none (first + k * step) s

  turn : k < n → o ≡ on_found (one (first + k * step) s) (go (n - (k + 1)) (first + k * step + step))
  turn h =
      let e : n - k ≡ suc (n - (k + 1)) = omega arith in
      p.is ∙ ap (λ (m : ℕ). go m (first + k * step) s) e ∙ t.more (n - (k + 1)) (first + k * step) s

  pub turns-refused : {v : Outcome} {r : ℕ} → k < n → v ≡ one (first + k * step) s → v ≡ refused r → v ≡ o
  turns-refused h e r = r ∙ sym (turn h ∙ ap (λ (x : Outcome). on_found x (go (n - (k + 1)) (first + k * step + step))) (sym e ∙ r))

  pub turns-on : {v : Outcome} {u : State} → k < n → v ≡ one (first + k * step) s → v ≡ found u → Left go step n first (k + 1) o u
  turns-on {u = u} h e r =
      let d : first + k * step + step ≡ first + (k + 1) * step = grind arith in
      record {
        is =
            turn h ∙ ap (λ (x : Outcome). on_found x (go (n - (k + 1)) (first + k * step + step))) (sym e ∙ r)
            ∙ ap (λ (i : ℕ). go (n - (k + 1)) i u) d;
      }

-- a cell that is looked at only where it is to be
module _ (cells : ℕ → CellRead) (a : Aim) (i r : ℕ) (s : Found) where
  where-refused : (here : Bool) → (r ≡ 0 → ⊥) → outcome r s ≡ where_of here cells a i (outcome r s)
  unfolding where_of
  where-refused here n =
      let e = is-refused r s n in
      e ∙ sym (ap (λ (x : Outcome). on_found x (λ t. pick here (visit_of cells a i t) (found t))) e)

  pub where-here : {here : Bool} {v : Outcome} → r ≡ 0 → here ≡ true → v ≡ visit_of cells a i (view s) → v ≡ where_of here cells a i (outcome r s)
  unfolding where_of
  where-here z h e = rw (is_found r s z, h) e

  where-not : {here : Bool} → r ≡ 0 → here ≡ false → outcome r s ≡ where_of here cells a i (outcome r s)
  unfolding where_of
  where-not z h = rw (is_found r s z, h)

  -- not looked at: a refusal stands before it, or it isn't to be
  pub where-passed : (here : Bool) → ((r ≡ 0) × (here ≡ false)) ⊎ (r ≡ 0 → ⊥) → outcome r s ≡ where_of here cells a i (outcome r s)
  where-passed here (inl p) = where-not p.0 p.1
  where-passed here (inr n) = where-refused here n

-- the cells below the limit that are looked at, of which there are eight at most
pub cells-are : (limit step : ℕ) → limit ≤ 16 → 1 ≤ step → step ≤ 2
    → (div_ceil ((limit + 1) / 2) step ≡ cells_along limit step) × (div_ceil ((limit + 1) / 2) step ≤ 8)
unfolding cells_along
cells-are limit zero h k l = absurd (lt_irrefl 0 k)
cells-are limit (suc zero) h k l = (omega arith, omega arith)
cells-are limit (suc (suc zero)) h k l = (omega arith, omega arith)
cells-are limit (suc (suc (suc n))) h k l = absurd (lt_irrefl 2 (omega arith))

-- a frame's cells are few
pub cell-most : (down : Bool) (b : Site) → Placed b → cell_of down b ≤ most_cells
unfolding cell_of
cell-most true b p = omega (arith, p.above, p.high)
cell-most false b p = omega (arith, p.before, p.wide)

-- a block with corners: its sides in cells, and the rows of cells down to the one under it
pub record Under (f : Field) (b : Site) : Type 0 where
  pub wide : b.w.0 / 2 ≤ 7
  pub high : b.h.0 / 2 ≤ 7
  pub some : 1 ≤ b.h.0 / 2
  pub most : b.h.0 / 2 * f.stride.0 ≤ 7 * most_cells
  pub least : f.stride.0 ≤ b.h.0 / 2 * f.stride.0

pub under : (f : Field) (b : Site) → Fielded f → has_corners b ≡ true → Under f b
unfolding has_corners
under f b d e =
    let p3 = both _ (ltb b.h.0 16) e in
    let p2 = both _ (ltb b.w.0 16) p3.0 in
    let p1 = both (leb 2 b.w.0) (leb 2 b.h.0) p2.0 in
    let w = ltb-true b.w.0 16 p2.1 in
    let h = ltb-true b.h.0 16 p3.1 in
    let k = leb-true 2 b.h.0 p1.1 in
    let high : b.h.0 / 2 ≤ 7 = omega arith in
    let some : 1 ≤ b.h.0 / 2 = omega arith in
    record {
      wide = omega arith;
      high = high;
      some = some;
      most = mul-le-mul {n₂ = 7} {m₂ = most_cells} high d.stride;
      least = omega (arith, mul-le-mul_right f.stride.0 some);
    }
