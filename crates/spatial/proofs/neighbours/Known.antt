-- What is known of a neighbour that was read, and of the number of a refusal.
-- Assumes nothing.
use Rattle.std.specs.Prelude.{Option, None, Some}
use mathlib.Core.Path.{◌≡◌, refl, sym, ◌∙◌, subst}
use mathlib.Core.Bool.{Bool, true, false, not}
use mathlib.Core.List.{List}
use mathlib.Core.Logic.{◌⊎◌, inl, inr}
use Prim.Native.Nat.{ℕ, ◌+◌, ◌≤◌}
use native.Mathlib.Omega.{arith}
use lib.Dec.{ltb}
use Rattle.ground.specs.Pick.{pick}
use Rattle.cells.specs.declared.block.Block.{Block}
use Rattle.cells.specs.declared.size.Dims.{Dims}
use Rattle.cells.specs.Block.{block_at, well_block}
use Rattle.cells.specs.Size.{size_of}
use Rattle.cells.proofs.Sizes.{narrow, size_is}
use Rattle.cells.proofs.Blocks.{well-is}
use Rattle.rows.specs.declared.table.RowEntry.{RowEntry}
use Rattle.rows.specs.Table.{place_at}
use Rattle.spatial.specs.declared.neighbours.read.Neighbour.{Neighbour}
use Rattle.spatial.specs.declared.neighbours.read.Line.{Line}
use Rattle.spatial.specs.declared.neighbours.read.NeighbourRead.{NeighbourRead}
use Rattle.spatial.specs.declared.neighbours.read.NeighbourRead.TheVariants.{Of, Refused}
use Rattle.spatial.specs.neighbours.Neighbour.{judged, record_at, in_row, read_at, side_in, side_of, along_of, across_of, entry_of, col_of, line_at}

-- a well formed record
pub record Known (k : Neighbour) : Type 0 where
  pub well : well_block k.block ≡ true

-- document 01's refusals of a read
abbrev pub Listed : ℕ → Type 0
Listed n = (n ≡ 4) ⊎ ((n ≡ 6) ⊎ (n ≡ 8))

abbrev pub Told : NeighbourRead → Type 0
Told (Of k) = Known k
Told (Refused n) = Listed n

told-judged : (k : Block) → Told (judged k)
unfolding judged
told-judged k = cases (well_block k) refl
  where
    cases : (b : Bool) → well_block k ≡ b → Told (pick b (Of (record { block = k })) (Refused 8))
    cases true e = record { well = e }
    cases false e = inr (inr refl)

told-record : (recs : List ℕ) (total o col : ℕ) → Told (record_at recs total o col)
unfolding record_at
told-record recs total o col = cases (ltb (o + col) total)
  where
    cases : (b : Bool) → Told (pick b (judged (block_at recs (o + col))) (Refused 4))
    cases true = told-judged (block_at recs (o + col))
    cases false = inl refl

told-place : (recs : List ℕ) (total col : ℕ) (p : Option ℕ) → Told (in_row recs total col p)
told-place recs total col None = inr (inl refl)
told-place recs total col (Some o) = told-record recs total o col

pub told : (rows : List RowEntry) (recs : List ℕ) (total e col : ℕ) → Told (read_at rows recs total e col)
unfolding read_at
told rows recs total e col = told-place recs total col (place_at rows e)

pub told_line : (rows : List RowEntry) (recs : List ℕ) (total : ℕ) (l : Line) (i : ℕ) → Told (line_at (read_at rows recs total) l i)
unfolding line_at
told_line rows recs total l i = told rows recs total (entry_of l i) (col_of l i)

-- the same where the answer r is matched
pub is_known : {a r : NeighbourRead} {k : Neighbour} → Told a → r ≡ a → r ≡ Of k → Known k
is_known t e o = subst Told (sym e ∙ o) t

pub is_some : {a r : NeighbourRead} {n : ℕ} → Told a → r ≡ a → r ≡ Refused n → 1 ≤ n
is_some {n = n} t e o = some (subst Told (sym e ∙ o) t)
  where
    some : Listed n → 1 ≤ n
    some (inl h) = omega arith
    some (inr (inl h)) = omega arith
    some (inr (inr h)) = omega arith

-- a neighbour that was read has sides of 1 to 32 units
pub some-side : (down : Bool) (k : Neighbour) → Known k → (1 ≤ along_of down k) × (along_of down k ≤ 32)
unfolding along_of side_of
some-side down k n = by down (size_is k.block.bs (well-is k.block n.well).code)
  where
    by : (down : Bool) → (d : Dims) × (size_of k.block.bs ≡ Some d) → (1 ≤ side_in down (size_of k.block.bs)) × (side_in down (size_of k.block.bs) ≤ 32)
    by true (d, e) = let h = narrow k.block.bs d e in rw e (h.some-h, h.few-h)
    by false (d, e) = let h = narrow k.block.bs d e in rw e (h.some-w, h.few-w)

pub across-is : (down : Bool) (k : Neighbour) → across_of down k ≡ along_of (not down) k
unfolding along_of across_of
across-is down k = refl
