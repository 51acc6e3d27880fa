-- Vectors taken towards a reference: what they are, and how long; and what a cell that is read is known to be.
-- Assumes nothing.
use mathlib.Core.Path.{◌≡◌, refl, ap, ◌∙◌}
use mathlib.Core.Bool.{Bool, true, false, not}
use mathlib.Core.List.{List}
use Prim.Native.Nat.{ℕ, ◌≤◌}
use native.Mathlib.Omega.{arith}
use lib.Dec.{ltb}
use lib.IntN.{ℤ, nat_abs}
use mir.Syntax.{w16}
use mir.Val.{to_z, of_z}
use mir.Facts.{to_z-of_z}
use Rattle.ground.specs.Pick.{pick}
use Rattle.ground.proofs.Bits.{fits-abs}
use Rattle.vector.specs.declared.mv.Mv.{Mv}
use Rattle.vector.specs.Vector.{Within, both}
use Rattle.vector.specs.Projection.{projected}
use Rattle.vector.proofs.Projections.{projected-within}
use Rattle.vector.proofs.Precisions.{lowered-within}
use Rattle.cells.specs.declared.cell.Cell.{Cell}
use Rattle.cells.specs.Block.{MvPair}
use Rattle.cells.specs.Cell.{cell_at, well_projected, projected_absent}
use Rattle.temporal.specs.declared.aim.Aim.{Aim}
use Rattle.temporal.specs.declared.aim.CellRead.TheVariants.{Of, Absent, Refused}
use Rattle.temporal.specs.Temporal.{cell_read, towards, pair_of}

-- a projected vector is short enough to be lowered, and stays so
pub wider : (v : Mv) → Within 16383 v → Within 16384 v
wider v w = record { y = omega (arith, w.y); x = omega (arith, w.x) }

pub towards-within : (num : ℤ) (den : ℕ) (integer hp : Bool) (v : Mv) → Within 16384 (towards num den integer hp v)
unfolding towards
towards-within num den integer hp v = lowered-within integer hp (both (projected num den) v) (wider _ (projected-within num den v))

-- the same where num went through a local
pub taken-towards : (num : ℤ) (den : ℕ) (integer hp : Bool) (v : Mv) {r : Mv} → nat_abs num ≤ 31
    → r ≡ towards (to_z w16 (of_z w16 num)) den integer hp v → r ≡ towards num den integer hp v
taken-towards num den integer hp v h e = e ∙ ap (λ (n : ℤ). towards n den integer hp v) (to_z-of_z {w = w16} (fits-abs num (omega arith)))

-- the candidate, by its two vectors
pub paired : (a : Aim) (v : Mv) {d e : ℕ} {first second : Mv}
    → d ≡ e → first ≡ towards a.first d a.integer a.hp v → second ≡ (pair_of a d v).second
    → ◌≡◌ {A = MvPair} (record { first = first; second = second }) (pair_of a e v)
unfolding pair_of
paired a v k p q = rw (p, q, k)

-- a cell that is read is well formed, and not absent
pub read_of : (l : List ℕ) (total i : ℕ) (c : Cell) → cell_read l total i ≡ Of c → (well_projected c ≡ true) × (projected_absent c ≡ false)
unfolding cell_read
read_of l total i c e = by (not (ltb i total)) (well_projected (cell_at l i)) refl (projected_absent (cell_at l i)) refl e
  where
    by : (s w : Bool) → well_projected (cell_at l i) ≡ w → (a : Bool) → projected_absent (cell_at l i) ≡ a
        → pick s (Refused 4) (pick (not w) (Refused 7) (pick a Absent (Of (cell_at l i)))) ≡ Of c
        → (well_projected c ≡ true) × (projected_absent c ≡ false)
    by true w tw a ta e = (cc, cc)
    by false false tw a ta e = (cc, cc)
    by false true tw true ta e = (cc, cc)
    by false true tw false ta e = (cc, cc)

-- a number of 31 at most is what its local reads back
pub held_small : (z : ℤ) → nat_abs z ≤ 31 → nat_abs (to_z w16 (of_z w16 z)) ≤ 31
held_small z h = omega (arith, ap nat_abs (to_z-of_z {w = w16} (fits-abs z (omega arith))))
