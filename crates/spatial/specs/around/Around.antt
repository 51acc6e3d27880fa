-- The order of 7.10.2: what touches the block, and later what lies farther off. `read` gives the neighbour of an entry of the table and a column.
use Rattle.std.specs.Prelude.{ℕ, ◌+◌, ◌-◌, Bool, true, false, ◌&&◌, not, eqb, ltb, leb}
use Rattle.ground.specs.Pick.{pick}
use Rattle.spatial.specs.declared.site.block.Site.{Site}
use Rattle.spatial.specs.site.Site.{depth_of}
use Rattle.spatial.specs.declared.neighbours.read.NeighbourRead.{NeighbourRead}
use Rattle.spatial.specs.declared.neighbours.want.Want.{Want}
use Rattle.spatial.specs.neighbours.Neighbour.{line_at}
use Rattle.spatial.specs.Scan.{ScanOutcome, scan_of, point_of}
use Rattle.spatial.specs.Scan as scans
use Rattle.stack.specs.Stack.{State, nothing}
use Rattle.spatial.specs.around.Lines.{row_of, near_line, far_line, near_span, far_span}

-- refused, or what has been found, and how many lines the scans of either side stand for
pub data Went : Type 0 where
  refused : ℕ → Went
  on : State → ℕ → ℕ → Went

abbrev pub on_scan : ScanOutcome → (State → ℕ → Went) → Went
on_scan (scans.refused n) f = refused n
on_scan (scans.found s r) f = f s r

abbrev pub on_went : Went → (State → ℕ → ℕ → Went) → Went
on_went (refused n) f = refused n
on_went (on s a l) f = f s a l

-- the near line of a side; there is none at the tile's edge
unfoldable pub near_of : (ℕ → ℕ → NeighbourRead) → Site → Bool → Want → State → ScanOutcome
near_of read b down q s =
    pick (eqb (depth_of down b) 0) (scans.found s 0) (scan_of (line_at read (near_line down b)) down q (near_span down b) s)

-- The point above right: where it has been decoded, as the caller says, in the tile, and neither side is above 16 units.
unfoldable pub has_right : Site → Bool → Bool
has_right b decoded =
    decoded && not (eqb (depth_of false b) 0) && leb b.w.0 16 && leb b.h.0 16 && ltb (b.x.0 + b.w.0) b.col.end.0

-- a point of the row above
unfoldable pub point_where : Bool → (ℕ → ℕ → NeighbourRead) → Site → ℕ → Want → State → ScanOutcome
point_where here read b col q s = pick here (point_of (read (row_of b + 4) col) q s) (scans.found s 0)

unfoldable pub near_all : (ℕ → ℕ → NeighbourRead) → Site → Bool → Want → Went
near_all read b decoded q =
    on_scan (near_of read b false q nothing) (λ s above.
    on_scan (near_of read b true q s) (λ t left.
    on_scan (point_where (has_right b decoded) read b (b.x.0 + b.w.0) q t) (λ u r. on u above left)))

-- Line n of a side, where the side has one that no nearer neighbour stood for.
abbrev pub farther : ℕ → ScanOutcome → ScanOutcome
farther reach (scans.refused n) = scans.refused n
farther reach (scans.found s r) = scans.found s (reach + r)

unfoldable pub far_of : (ℕ → ℕ → NeighbourRead) → Site → Bool → (n reach : ℕ) → Want → State → ScanOutcome
far_of read b down n reach q s =
    pick (leb n reach) (scans.found s reach)
    (pick (ltb (depth_of down b) n) (scans.found s reach)
    (farther reach (scan_of (line_at read (far_line down b n)) down q (far_span down b n) s)))

unfoldable pub round_of : (ℕ → ℕ → NeighbourRead) → Site → ℕ → Want → Went → Went
round_of read b n q a =
    on_went a (λ s above left.
    on_scan (far_of read b false n above q s) (λ t r.
    on_scan (far_of read b true n left q t) (λ u c. on u r c)))

-- The point above left needs both a row above and a column to the left.
unfoldable pub has_left : Site → Bool
has_left b = not (eqb (depth_of false b) 0) && not (eqb (depth_of true b) 0)

unfoldable pub far_all : (ℕ → ℕ → NeighbourRead) → Site → (above left : ℕ) → Want → State → Went
far_all read b above left q s =
    round_of read b 3 q
    (round_of read b 2 q
    (on_scan (point_where (has_left b) read b (b.x.0 - 1) q s) (λ t r. on t above left)))
