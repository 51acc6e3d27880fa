-- `stack::add::raise` meets its contract.
use Rattle.stack.specs.Stack.{heavier}
use Rattle.stack.specs.Code.Numbers.{found_at, Held}
use Rattle.stack.proofs.Maps.{Turned}
use Rattle.stack.proofs.add.raise.Given as goal

abbrev pub invariant-loop-i : goal.invariant-loop-i
invariant-loop-i l = record { held : Held l.s; turned : Turned (heavier l.w) (found_at l.initial.s) l.i (found_at l.s) }
