-- `stack::add::add_weight` meets its contract.
use native.Mathlib.Omega.{arith}
use Rattle.stack.proofs.Adds.{weight-in, gains}
use Rattle.stack.proofs.add.add_weight.Goals as goal

pub overflow_add-s-2 : goal.overflow_add-s-2
overflow_add-s-2 c =
    let s = c in
    let w = weight-in s.args.s.now s.requires.0 s.args.i s.requires.1 in
    record { fits = omega arith }

pub returns : goal.returns
returns c = let s = c in gains s.args.s.now s.requires.0 s.args.i s.args.w (omega (arith, s.requires.0.room))
