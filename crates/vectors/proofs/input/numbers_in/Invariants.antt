-- `vectors::input::numbers_in` meets its contract.
use Rattle.std.proofs.Common.{◌≤◌, length}
use Rattle.vectors.proofs.input.numbers_in.Given as goal

abbrev pub invariant-loop-run : goal.invariant-loop-run
invariant-loop-run l = l.count ≤ length l.room
