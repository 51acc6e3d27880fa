-- `vectors::replay` meets its contract.
use Rattle.std.proofs.Common.{◌≤◌}
use Rattle.vectors.proofs.replay.Given as goal

abbrev pub invariant-loop : goal.invariant-loop
invariant-loop g l = l.kept ≤ 65536
