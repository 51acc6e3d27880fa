-- A motion cell in a buffer of cells: 5 bytes, y and x of two bytes, the reference of one. And when it is well formed, and absent.
use Rattle.std.specs.Prelude.{ℕ, ◌+◌, ◌*◌, Bool, ◌&&◌, ◌||◌, List, ◌++◌, pos}
use Rattle.ground.specs.Sign.{eq_z, from_to}
use Rattle.ground.specs.Twos.{byte_at, byte_of}
use Rattle.vector.specs.Vector.{invalid, eq_mv, within, mv_at, mv_bytes}
use Rattle.cells.specs.declared.cell.Ref.{Ref}
use Rattle.cells.specs.declared.cell.Cell.{Cell}

-- a reference frame, and neither INTRA nor NONE
unfoldable pub is_ref : Ref → Bool
is_ref r = from_to (pos 1) (pos 7) r.0

-- cell i of a buffer, and the bytes that hold a cell
unfoldable pub cell_at : List ℕ → ℕ → Cell
cell_at l i = record { mv = mv_at l (5 * i); reference = record { 0 = byte_at l (5 * i + 4) } }

abbrev pub cell_bytes : Cell → List ℕ
cell_bytes c = mv_bytes c.mv ++ byte_of c.reference.0

-- in a saved field reference 0 marks absence
unfoldable pub saved_absent : Cell → Bool
saved_absent c = eq_z c.reference.0 (pos 0)

-- in a projected field the vector INVALID does
unfoldable pub projected_absent : Cell → Bool
projected_absent c = eq_mv c.mv invalid

-- a saved cell: absent, or a reference 1..7 with components within ±4,095
unfoldable pub well_saved : Cell → Bool
well_saved c = saved_absent c || from_to (pos 1) (pos 7) c.reference.0 && within 4095 c.mv

-- a projected cell: absent, or components within ±4,095 and a distance 1..31
unfoldable pub well_projected : Cell → Bool
well_projected c = projected_absent c || within 4095 c.mv && from_to (pos 1) (pos 31) c.reference.0
