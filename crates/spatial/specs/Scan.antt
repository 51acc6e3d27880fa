-- The scan row and scan column processes (7.10.2.2, 7.10.2.3), one definition along a line, and the scan point process (7.10.2.4).
-- The source's way is kept: a neighbour as long as the block stands for several rows at once (docs/DIFFERENCES.md).
use Rattle.std.specs.Prelude.{ℕ, zero, suc, ◌+◌, ◌*◌, ◌/◌, max, min, Bool, false, eqb, ltb}
use Rattle.ground.specs.Pick.{pick}
use Rattle.stack.specs.Stack.{State}
use Rattle.spatial.specs.declared.neighbours.read.Neighbour.{Neighbour}
use Rattle.spatial.specs.declared.neighbours.read.NeighbourRead.{NeighbourRead}
use Rattle.spatial.specs.declared.neighbours.read.NeighbourRead.TheVariants as read_as
use Rattle.spatial.specs.declared.neighbours.want.Want.{Want}
use Rattle.spatial.specs.declared.scan.Span.{Span}
use Rattle.spatial.specs.declared.scan.Next.{Next}
use Rattle.spatial.specs.declared.scan.Next.TheVariants as next-as
use Rattle.spatial.specs.neighbours.Neighbour.{along_of, across_of}
use Rattle.spatial.specs.Take.{spatial}

-- a scan is refused, or has found something and stands for `reach` rows
pub data ScanOutcome : Type 0 where
  refused : ℕ → ScanOutcome
  found : State → ℕ → ScanOutcome

-- What is read goes on, or its refusal is the scan's.
abbrev pub on_read : NeighbourRead → (Neighbour → ScanOutcome) → ScanOutcome
on_read (read_as.Of k) f = f k
on_read (read_as.Refused n) f = refused n

abbrev pub on_next : Next → (Neighbour → ℕ → ScanOutcome) → ScanOutcome
on_next (next-as.Take k len) f = f k len.0
on_next (next-as.Refused n) f = refused n

-- a later neighbour that is as long as the block is refused: in a layout of blocks there is none
abbrev pub shorter : Bool → Span → NeighbourRead → Next
shorter down p (read_as.Refused n) = next-as.Refused n
shorter down p (read_as.Of k) =
    pick (ltb (along_of down k) p.size.0) (next-as.Take k (record { 0 = max p.step.0 (along_of down k) })) (next-as.Refused 9)

unfoldable pub next_of : (ℕ → NeighbourRead) → Bool → Span → ℕ → Next
next_of nb down p i = shorter down p (nb i)

-- From unit x on: each neighbour counts for its length, at least for the step, with weight 2, and the next one is read that much further. The number n is
-- enough for the units that are left.
unfoldable pub scan_on : (ℕ → NeighbourRead) → Bool → Want → Span → ℕ → ℕ → State → ScanOutcome
scan_on nb down q p zero x s = found s 1
scan_on nb down q p (suc n) x s =
    pick (ltb x p.limit.0)
    (on_next (next_of nb down p x) (λ k len. scan_on nb down q p n (x + len) (spatial down (2 * len) k.block q s)))
    (found s 1)

-- a neighbour as long as the block: weight 2 for each two rows that both it and the search reach
unfoldable pub weight_of : Span → ℕ → ℕ
weight_of p across = pick (eqb p.size.0 1) 2 (max 2 (min (2 * p.rows) across))

unfoldable pub scan_from : (ℕ → NeighbourRead) → Bool → Want → Span → Neighbour → State → ScanOutcome
scan_from nb down q p k s =
    pick (ltb (along_of down k) p.size.0)
    (scan_on nb down q p p.limit.0 (max p.step.0 (along_of down k)) (spatial down (2 * max p.step.0 (along_of down k)) k.block q s))
    (found (spatial down (max p.step.0 p.size.0 * weight_of p (across_of down k)) k.block q s) (weight_of p (across_of down k) / 2))

unfoldable pub scan_of : (ℕ → NeighbourRead) → Bool → Want → Span → State → ScanOutcome
scan_of nb down q p s = on_read (nb 0) (λ k. scan_from nb down q p k s)

-- a point has weight 4 and counts as a neighbour above
unfoldable pub point_of : NeighbourRead → Want → State → ScanOutcome
point_of r q s = on_read r (λ k. found (spatial false 4 k.block q s) 0)
