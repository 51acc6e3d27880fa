-- `stack::clamp::clamp` meets its contract.
use Rattle.std.proofs.Common.{arith, rules}
use Rattle.stack.specs.Code.Found.{view}
use Rattle.stack.specs.Code.Numbers.{found_at}
use Rattle.stack.specs.Clamp.{clamped_one, clamped}
use Rattle.stack.proofs.Helds.{FitsPair, stack-long}
use Rattle.stack.proofs.Maps.{starts, same_count, ends}
use Rattle.stack.proofs.Clips.{clamps, in-order}
use Rattle.stack.proofs.clamp.clamp.Goals as goal

pub loop-i-init : goal.loop-i-init
loop-i-init c = record { held = c.requires; turned = starts (clamped_one c.args.r) (found_at c.args.s.now) }

pub clamp_pair-requires : goal.clamp_pair-requires
clamp_pair-requires c = rw c.bounds_of-b.ensures (in-order c.args.r)

pub loop-i-preserved : goal.loop-i-preserved
loop-i-preserved c =
    let p : FitsPair c.pair_in.result = record { first = record { y = search rules; x = search rules }; second = record { y = search rules; x = search rules } } in
    let q : FitsPair c.clamp_pair.result = record { first = record { y = search rules; x = search rules }; second = record { y = search rules; x = search rules } } in
    let t = clamps c.args.r c.args.s.now c.loop-i.s c.loop-i.i c.loop-i.invariant.held (search rules) c.loop-i.invariant.turned c.pair_in.ensures p c.bounds_of-b.ensures
    c.clamp_pair.ensures q c.pair_bits.ensures.bits in
    record { held = t.0; turned = t.1 }

pub returns : goal.returns
unfolding clamped view
returns c =
    let t = c.loop-i.invariant.turned in
    let n = stack-long c.args.s.now in
    (c.loop-i.invariant.held, same_count t, ends t (omega arith) (omega (arith, n, c.requires.room)))
