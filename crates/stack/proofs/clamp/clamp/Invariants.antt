-- `stack::clamp::clamp` meets its contract.
use Rattle.stack.specs.Code.Numbers.{found_at, Held}
use Rattle.stack.specs.Clamp.{clamped_one}
use Rattle.stack.proofs.Maps.{Turned}
use Rattle.stack.proofs.clamp.clamp.Given as goal

abbrev pub invariant-loop-i : goal.invariant-loop-i
invariant-loop-i l = record { held : Held l.s; turned : Turned (clamped_one l.fn.r) (found_at l.initial.s) l.i (found_at l.s) }
