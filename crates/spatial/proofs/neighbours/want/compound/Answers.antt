-- `spatial::neighbours::want::compound` meets its contract.
use Rattle.ground.proofs.Bits.{int_eq-is}
use Rattle.spatial.specs.neighbours.Want.{compound_of}
use Rattle.spatial.proofs.neighbours.want.compound.Goals.{then-ne-via-then-ne, then-ne-via-else-ne+then-ne-2}
use Rattle.spatial.proofs.neighbours.want.compound.Goals as goal

pub returns-then-ne : goal.returns-then-ne
unfolding compound_of
returns-then-ne c =
    let a = c.args in
    elim c.then-ne.branch [
      | then-ne-via-then-ne w ↦ rw (← int_eq-is a.k.refs.first.0 a.q.refs.first.0, ← c.ne.ensures, w.if-ne.true)
      | then-ne-via-else-ne+then-ne-2 w ↦
          rw (← int_eq-is a.k.refs.first.0 a.q.refs.first.0, ← c.ne.ensures, w.if-ne.false, ← int_eq-is a.k.refs.second.0 a.q.refs.second.0, ← w.ne-else-ne.ensures, w.if-ne-2.true)
    ]

pub returns : goal.returns
unfolding compound_of
returns c =
    let a = c.args in
    rw (← int_eq-is a.k.refs.first.0 a.q.refs.first.0, ← c.ne.ensures, c.if-ne.false, ← int_eq-is a.k.refs.second.0 a.q.refs.second.0, ← c.ne-else-ne.ensures, c.if-ne-2.false, ← c.lent-first.ensures, ← c.lent-second.ensures)
