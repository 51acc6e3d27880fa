-- `stack::add::raise` meets its contract.
use mathlib.Core.Path.{refl}
use native.Mathlib.Omega.{arith}
use Rattle.stack.specs.Code.Found.{live, weightier, view}
use Rattle.stack.specs.Stack.{heavier, raised}
use Rattle.stack.specs.Code.Numbers.{found_at}
use Rattle.stack.proofs.Counts.{heft-raised}
use Rattle.stack.proofs.Helds.{stack-long}
use Rattle.stack.proofs.Adds.{in_use, weight-kept, gains}
use Rattle.stack.proofs.Maps.{starts, turns, same_count, ends, live_of}
use Rattle.stack.proofs.add.raise.Goals as goal

pub loop-i-init : goal.loop-i-init
loop-i-init c = record { held = c.requires.0; turned = starts (heavier c.args.w) (found_at c.args.s.now) }

pub overflow_add-s-in-loop-i : goal.overflow_add-s-in-loop-i
overflow_add-s-in-loop-i c =
    let n = c.count_in-i-end.ensures in
    let w = weight-kept c.args.s.now c.requires.0 c.loop-i.s c.loop-i.i c.loop-i.invariant.turned (omega arith) in
    record { fits = omega arith }

pub loop-i-preserved : goal.loop-i-preserved
unfolding weightier
loop-i-preserved c =
    let n = c.count_in-i-end.ensures in
    let k = stack-long c.args.s.now in
    let r = c.requires.0.room in
    let g = gains c.loop-i.s c.loop-i.invariant.held c.loop-i.i c.args.w (omega arith) in
    record { held = g.0; turned = rw g.1 (turns c.loop-i.invariant.turned (omega arith) refl) }

pub returns : goal.returns
unfolding raised view
returns c =
    let f = found_at c.args.s.now in
    let n = c.count_in-i-end.ensures in
    let m = stack-long c.args.s.now in
    let r = c.requires.0.room in
    let v = ends c.loop-i.invariant.turned (omega arith) (omega arith) in
    let k = in_use c.args.s.now c.requires.0 in (
      c.loop-i.invariant.held,
      same_count c.loop-i.invariant.turned,
      v,
      rw (live_of f (found_at c.loop-i.s) v) (heft-raised (live f) c.args.w (omega arith) c.requires.1),
    )
