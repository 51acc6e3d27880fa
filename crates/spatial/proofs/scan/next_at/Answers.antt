-- `spatial::scan::next_at` meets its contract.
use borrow.Author.Tests.{lt-ltb, le-ltb}
use Rattle.spatial.specs.Scan.{next_of}
use Rattle.spatial.proofs.scan.next_at.Goals as goal

pub returns-then-n-p : goal.returns-then-n-p
unfolding next_of
returns-then-n-p c = rw (← c.neighbour_at.ensures, c.in-Of.is, ← c.along-n.ensures, lt-ltb _ _ c.if-n-p.true, ← c.max.ensures)

pub returns-in-Refused : goal.returns-in-Refused
unfolding next_of
returns-in-Refused c = rw (← c.neighbour_at.ensures, c.in-Refused.is)

pub returns-else-n-p : goal.returns-else-n-p
unfolding next_of
returns-else-n-p c = rw (← c.neighbour_at.ensures, c.in-Of.is, ← c.along-n.ensures, le-ltb _ _ c.if-n-p.false)
