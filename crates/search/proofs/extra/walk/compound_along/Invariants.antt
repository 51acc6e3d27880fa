-- `search::extra::walk::compound_along` meets its contract.
use Prim.Native.Nat.{◌-◌}
use Rattle.search.specs.Code.Pool.{pools_of}
use Rattle.search.specs.extra.Walk.{compound_on}
use Rattle.spatial.specs.Code.Neighbour.{line_from}
use Rattle.search.proofs.extra.Walks.{Goes₂}
use Rattle.search.proofs.extra.walk.compound_along.Given as goal

abbrev pub invariant-loop-x : goal.invariant-loop-x
invariant-loop-x l =
    Goes₂ (line_from l.records l.l) l.l.down l.limit.0 l.wanted.biases.now l.wanted.refs (compound_on (line_from l.records l.l) l.l.down l.limit.0 l.wanted.biases.now l.wanted.refs l.limit.0 0 (pools_of l.initial.t)) l.x (pools_of l.t)

abbrev pub decreases-loop-x : goal.decreases-loop-x
decreases-loop-x l = l.limit.0 - l.x
