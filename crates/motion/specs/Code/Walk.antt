-- What the code of a save works with: a reference's hint by itself, a record where the listed cells are counted. proofs/saving/Walks has it say the same
-- as `Save`.
use Rattle.std.specs.Prelude.{ℕ, ◌-◌, Bool, ◌&&◌, not, List, eqb, ltb, ℤ, pos, nat_abs}
use Rattle.ground.specs.Pick.{pick}
use Rattle.ground.specs.Sign.{from_to}
use Rattle.vector.specs.Vector.{within}
use Rattle.cells.specs.declared.block.Block.{Block}
use Rattle.cells.specs.declared.cell.Cell.{Cell}
use Rattle.cells.specs.Block.{well_block}
use Rattle.frame.specs.declared.hints.distances.RefHint.{RefHint}
use Rattle.motion.specs.saving.Save.{no_cell, second_of_two, first_of_two, block_on}

-- `usable` by the hint of the cell's reference alone; and where that stands, any place for a reference that has none.
unfoldable pub usable_by : RefHint → Cell → Bool
usable_by h c = from_to (pos 1) (pos 7) c.reference.0 && not (eqb h.mfmv_sign 0) && within 4095 c.mv

unfoldable pub hint_place : ℤ → ℕ
hint_place z = pick (from_to (pos 1) (pos 7) z) (nat_abs z - 1) 0

-- `chosen` by the hints of the first list's reference and of the second's
unfoldable pub chosen_by : RefHint → RefHint → Block → Cell
chosen_by h h' b = pick (usable_by h' (second_of_two b)) (second_of_two b) (pick (usable_by h (first_of_two b)) (first_of_two b) no_cell)

-- the record alone, where the first n cells have a listed one: past those 4, not well formed 8
unfoldable pub record_read : List ℕ → (n o x : ℕ) → ℕ
record_read recs n o x = pick (not (ltb x n)) 4 (pick (not (well_block (block_on recs o x))) 8 0)
