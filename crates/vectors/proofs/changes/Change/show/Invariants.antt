-- `vectors::changes::Change::show` meets its contract.
use Rattle.std.proofs.Common.{◌-◌, ◌≤◌, length}
use Rattle.vectors.proofs.changes.Change.show.Given as goal

abbrev pub invariant-loop-at : goal.invariant-loop-at
invariant-loop-at g l = l.at ≤ length l.self.after.now

abbrev pub decreases-loop-at : goal.decreases-loop-at
decreases-loop-at g l = length l.self.after.now - l.at
