-- `spatial::scan::scan_on` meets its contract.
use Prim.Native.Nat.{◌+◌, ◌-◌, ◌*◌, ◌≤◌}
use Rattle.stack.specs.Code.Numbers.{view_at, heft_at, Held}
use Rattle.spatial.specs.Scan.{scan_on}
use Rattle.spatial.specs.Code.Neighbour.{line_from}
use Rattle.spatial.proofs.Scans.{Goes}
use Rattle.spatial.proofs.scan.scan_on.Given as goal

abbrev pub invariant-loop-x : goal.invariant-loop-x
invariant-loop-x l =
    Held l.s × (heft_at l.s ≤ heft_at l.initial.s + 2 * l.x) × (l.x ≤ 64)
    × Goes (line_from l.records l.l) l.l.down l.q l.p (scan_on (line_from l.records l.l) l.l.down l.q l.p l.p.limit.0 l.initial.x (view_at l.initial.s)) l.x (view_at l.s)

abbrev pub decreases-loop-x : goal.decreases-loop-x
decreases-loop-x l = l.p.limit.0 - l.x
