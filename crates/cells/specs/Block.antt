-- A block record in a buffer of records: 12 bytes, two vectors, two references, the size code and mf. And when it is well formed.
use Rattle.std.specs.Prelude.{ℕ, ◌+◌, ◌*◌, ◌/◌, ◌%◌, Bool, ◌&&◌, ◌||◌, not, List, [], ◌∷◌, ◌++◌, leb, pos, negsuc, get_or}
use Rattle.ground.specs.Sign.{from_to}
use Rattle.ground.specs.Twos.{twos8, byte_at, byte_of}
use Rattle.vector.specs.Vector.{within, mv_at, mv_bytes}
use Rattle.vector.specs.declared.mv.Mv.{Mv}
use Rattle.cells.specs.declared.cell.Ref.{Ref}
use Rattle.cells.specs.declared.block.Pair.{Pair}
use Rattle.cells.specs.declared.block.Block.{Block}

abbrev pub MvPair : Type 0
MvPair = Pair Mv

abbrev pub RefPair : Type 0
RefPair = Pair Ref

-- the two vectors, and the two references, from byte i on
abbrev pub vectors_at : List ℕ → ℕ → MvPair
vectors_at l i = record { first = mv_at l i; second = mv_at l (i + 4) }

abbrev pub refs_at : List ℕ → ℕ → RefPair
refs_at l i = record { first = record { 0 = byte_at l i }; second = record { 0 = byte_at l (i + 1) } }

-- the two references in the low bytes of a number
abbrev pub refs_in : ℕ → RefPair
refs_in n = record { first = record { 0 = twos8 (n % 256) }; second = record { 0 = twos8 (n / 256 % 256) } }

-- record i of a buffer, and the bytes that hold a record
unfoldable pub block_at : List ℕ → ℕ → Block
block_at l i =
    record { mv = vectors_at l (12 * i); refs = refs_at l (12 * i + 8); bs = get_or l (12 * i + 10) 0; mf = get_or l (12 * i + 11) 0 }

abbrev pub tail_bytes : RefPair → ℕ → ℕ → List ℕ
tail_bytes r bs mf = byte_of r.first.0 ++ (byte_of r.second.0 ++ (bs ∷ mf ∷ []))

abbrev pub block_bytes : Block → List ℕ
block_bytes b = mv_bytes b.mv.first ++ (mv_bytes b.mv.second ++ tail_bytes b.refs b.bs b.mf)

-- a vector whose reference is 1..7 has components within ±16,383
unfoldable pub bound_to : Mv → Ref → Bool
bound_to v r = not (from_to (pos 1) (pos 7) r.0) || within 16383 v

-- size at most 21, mf 0..3, first reference 0..7, second -1..7 (`negsuc 0` is -1), and each vector bound to its reference
unfoldable pub well_block : Block → Bool
well_block b =
    leb b.bs 21 && leb b.mf 3 && from_to (pos 0) (pos 7) b.refs.first.0 && from_to (negsuc 0) (pos 7) b.refs.second.0
    && bound_to b.mv.first b.refs.first && bound_to b.mv.second b.refs.second
