-- `search::extra::walk::single_along` meets its contract.
use Prim.Native.Nat.{◌-◌, ◌≤◌}
use Rattle.stack.specs.Code.Numbers.{view_at, count_at, Held}
use Rattle.search.specs.extra.Walk.{single_on}
use Rattle.spatial.specs.Code.Neighbour.{line_from}
use Rattle.search.proofs.extra.Walks.{Goes}
use Rattle.search.proofs.extra.walk.single_along.Given as goal

abbrev pub invariant-loop-x : goal.invariant-loop-x
invariant-loop-x l =
    Held l.s × (count_at l.s ≤ 3)
    × Goes (line_from l.records l.l) l.l.down l.limit.0 l.wanted.biases.now l.wanted.reference (single_on (line_from l.records l.l) l.l.down l.limit.0 l.wanted.biases.now l.wanted.reference l.limit.0 0 (view_at l.initial.s)) l.x (view_at l.s)

abbrev pub decreases-loop-x : goal.decreases-loop-x
decreases-loop-x l = l.limit.0 - l.x
