-- What the code of a load works with: places counted from 256 up, so that none is below 0. proofs/Placed has it say the same as `Lands`.
use Rattle.std.specs.Prelude.{ℕ, ◌+◌, ◌-◌, ◌*◌, ◌/◌, ◌≤◌, ◌<◌, ◌≡◌, Bool, true, false, not, ◌&&◌, List, [], ◌∷◌, leb, ltb, ℤ, pos, nat_abs, get_or}
use Rattle.std.specs.Bool.{beq}
use Rattle.ground.specs.Pick.{pick}
use Rattle.ground.specs.Script.{Patch}
use Rattle.ground.specs.Sign.{below}
use Rattle.vector.specs.Vector.{Within}
use Rattle.vector.specs.Projection.{projected}
use Rattle.cells.specs.declared.cell.Cell.{Cell}
use Rattle.cells.specs.Cell.{saved_absent, well_saved}
use Rattle.motion.specs.declared.saving.area.Window.{Window}
use Rattle.motion.specs.declared.landing.land.Motion.{Motion}
use Rattle.motion.specs.declared.landing.land.Shift.{Shift}
use Rattle.motion.specs.landing.Lands.{group, ref_offset, laid}

-- how far an offset moves a place: a place p here is the row or column p - 256
unfoldable pub shift : Bool → ℤ → ℕ
shift back o = pick (not (beq (below o) back)) (256 - nat_abs o / 64) (256 + nat_abs o / 64)

unfoldable pub near : (slack start end v p : ℕ) → Bool
near slack start end v p =
    (leb (group v + 256) (p + slack) && ltb p (group v + 264 + slack)) && (leb (start + 256) p && ltb p (end + 256))

-- the two shifts of a cell's vector
pub record Shifted (m : Motion) (den : ℕ) (c : Cell) (r : Shift) : Type 0 where
  pub y : r.y ≡ shift m.back (projected m.cur den c.mv.y)
  pub x : r.x ≡ shift m.back (projected m.cur den c.mv.x)
  pub short : (r.y < 512) × (r.x < 512)

-- a run of cells alike, from column x on
pub record Run (cells : ℕ → Cell) (x end : ℕ) (c : Cell) (r : ℕ) : Type 0 where
  pub past : x < r
  pub upto : r ≤ end
  pub alike : (i : ℕ) → x ≤ i → i < r → cells i ≡ c

-- the cell c with the distance den
abbrev pub apart_by : Cell → ℕ → Cell
apart_by c den = record { mv = c.mv; reference = record { 0 = pos den } }

-- what a run lays, column by column, of a row of the projection that starts at cell `row`, moved by d
unfoldable pub stamp : Window → (row d : ℕ) → Cell → ℕ → List Patch
stamp w row d c x = pick (near 8 w.left.0 w.right.0 x (x + d)) (laid (row + (x + d - 256)) c ∷ []) []

-- what laying the columns up to e asks for: a row of the window lies in n bytes, and no place is too far to be counted
pub record Stamps (w : Window) (row d e n : ℕ) : Type 0 where
  pub target : 5 * (row + w.right.0) ≤ n
  pub left : w.left.0 ≤ 65536
  pub right : w.right.0 ≤ 65536
  pub upto : e ≤ 65536
  pub short : d < 512

-- what an admission shows of a window, and of the row y of a field and the projection
pub record Bounded (w : Window) : Type 0 where
  pub cols : w.left.0 ≤ w.right.0
  pub wide : w.right.0 ≤ w.stride.0
  pub frame : w.iw8.0 ≤ w.stride.0
  pub narrow : w.stride.0 ≤ 65536
  pub low : w.bottom.0 ≤ 65536

pub record Room (nsrc nproj : ℕ) (w : Window) (y : ℕ) : Type 0 where
  pub bounded : Bounded w
  pub over : w.top.0 ≤ y
  pub under : y < w.bottom.0
  pub source : 5 * (y * w.stride.0 + w.stride.0) ≤ nsrc
  pub target : 5 * (w.part + 16 * w.stride.0) ≤ nproj

pub record Numbers (m : Motion) : Type 0 where
  pub cur : nat_abs m.cur ≤ 31
  pub apart : (i : ℕ) → get_or m.apart i 0 ≤ 31

abbrev pub Sound : (ℕ → Cell) → ℕ → ℕ → Type 0
Sound cells a e = (x : ℕ) → a ≤ x → x < e → well_saved (cells x) ≡ true

-- what a row's loop has at column x
pub record Going (nsrc first nproj : ℕ) (w : Window) (m : Motion) (y x end : ℕ) : Type 0 where
  pub more : x < end
  pub upto : end ≤ w.stride.0
  pub source : 5 * (first + w.stride.0) ≤ nsrc
  pub bounded : Bounded w
  pub top : w.top.0 ≤ 65536
  pub under : y < w.bottom.0
  pub target : 5 * (w.part + 16 * w.stride.0) ≤ nproj
  pub numbers : Numbers m

-- a source cell that moves, with its distance
pub record Taken (m : Motion) (c : Cell) (den : ℕ) : Type 0 where
  pub some : saved_absent c ≡ false
  pub is : den ≡ ref_offset m c
  pub apart : 0 < den
  pub near : Within 4095 c.mv
