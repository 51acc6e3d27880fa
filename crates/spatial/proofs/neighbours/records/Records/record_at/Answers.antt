-- `spatial::neighbours::records::Records::record_at` meets its contract.
use Prim.Native.Nat.{◌+◌}
use native.Mathlib.Omega.{arith}
use borrow.Author.Tests.{le-ltb, lt-ltb}
use Rattle.spatial.specs.neighbours.Neighbour.{record_at}
use Rattle.spatial.proofs.neighbours.records.Records.record_at.Goals.{then-self-o-via-then-self-o, then-self-o-via-else-self-o+then-self-o-2}
use Rattle.spatial.proofs.neighbours.records.Records.record_at.Goals as goal

pub returns-then-self-o : goal.returns-then-self-o
unfolding record_at
returns-then-self-o c =
    let a = c.args in
    rw (le-ltb (a.o + a.col.0) a.self.total
    (elim c.then-self-o.branch [
      | then-self-o-via-then-self-o w ↦ omega arith
      | then-self-o-via-else-self-o+then-self-o-2 w ↦ omega arith
    ]))

pub returns : goal.returns
unfolding record_at
returns c =
    let a = c.args in
    rw (lt-ltb (a.o + a.col.0) a.self.total (omega arith), ← c.read.ensures, ← c.judge.ensures)
