-- `spatial::neighbours::want::offered` meets its contract.
use lib.IntN.{negsuc}
use Rattle.ground.proofs.Bits.{int_eq-is}
use Rattle.spatial.specs.neighbours.Want.{offer_of}
use Rattle.spatial.proofs.neighbours.want.offered.Goals as goal

pub returns-then-is_invalid : goal.returns-then-is_invalid
unfolding offer_of
returns-then-is_invalid c = rw (← c.is_invalid.ensures, c.if-is_invalid.true)

pub returns-then-eq : goal.returns-then-eq
unfolding offer_of
returns-then-eq c = rw (← c.is_invalid.ensures, c.if-is_invalid.false, ← int_eq-is c.args.q.refs.second.0 (negsuc 0), ← c.eq.ensures, c.if-eq.true, ← c.single.ensures)

pub returns : goal.returns
unfolding offer_of
returns c = rw (← c.is_invalid.ensures, c.if-is_invalid.false, ← int_eq-is c.args.q.refs.second.0 (negsuc 0), ← c.eq.ensures, c.if-eq.false, ← c.compound.ensures)
