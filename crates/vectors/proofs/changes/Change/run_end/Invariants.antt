-- `vectors::changes::Change::run_end` meets its contract.
use Rattle.std.proofs.Common.{◌-◌, ◌<◌, ◌≤◌, length}
use Rattle.vectors.proofs.changes.Change.run_end.Given as goal

abbrev pub invariant-loop-i : goal.invariant-loop-i
invariant-loop-i l = (0 < l.unit) × (l.unit ≤ l.i) × (l.end ≤ l.i) × (l.i ≤ length l.self.after.now)

abbrev pub decreases-loop-i : goal.decreases-loop-i
decreases-loop-i l = length l.self.after.now - l.i
