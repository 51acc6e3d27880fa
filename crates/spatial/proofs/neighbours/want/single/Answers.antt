-- `spatial::neighbours::want::single` meets its contract.
use Rattle.ground.proofs.Bits.{int_eq-is}
use Rattle.spatial.specs.neighbours.Want.{single_of}
use Rattle.spatial.proofs.neighbours.want.single.Goals as goal

pub returns-then-eq : goal.returns-then-eq
unfolding single_of
returns-then-eq c = rw (← int_eq-is c.args.k.refs.first.0 c.args.r.0, ← c.eq.ensures, c.if-eq.true, ← c.lent-first.ensures)

pub returns-then-eq-2 : goal.returns-then-eq-2
unfolding single_of
returns-then-eq-2 c = rw (← int_eq-is c.args.k.refs.first.0 c.args.r.0, ← c.eq.ensures, c.if-eq.false, ← int_eq-is c.args.k.refs.second.0 c.args.r.0, ← c.eq-2.ensures, c.if-eq-2.true, ← c.lent-first-then-eq-2.ensures)

pub returns : goal.returns
unfolding single_of
returns c = rw (← int_eq-is c.args.k.refs.first.0 c.args.r.0, ← c.eq.ensures, c.if-eq.false, ← int_eq-is c.args.k.refs.second.0 c.args.r.0, ← c.eq-2.ensures, c.if-eq-2.false)
