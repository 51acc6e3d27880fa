-- `capture::player::blank::lay_everywhere` meets its contract.
use mathlib.Core.Path.{◌≡◌}
use Prim.Native.Nat.{◌-◌, ◌/◌}
use native.Mathlib.Omega.{arith}
use lib.ListN.{length}
use Rattle.ground.specs.Script.{run}
use Rattle.ground.proofs.Spans.{start, more, stop}
use Rattle.capture.specs.player.Played.{laid_at, everywhere}
use Rattle.capture.proofs.player.blank.lay_everywhere.Goals as goal

pub loop-i-init : goal.loop-i-init
loop-i-init c = start _ _ _

pub loop-i-preserved : goal.loop-i-preserved
unfolding run
loop-i-preserved c =
    let l = c.loop-i in
    let a = c.args in
    more (laid_at a.c) 0 l.i (omega arith) a.s.now l.invariant c.write.ensures

pub returns : goal.returns
unfolding everywhere
returns c =
    let l = c.loop-i in
    let a = c.args in
    let e : l.i - 0 ≡ length a.s.now / 5 - 0 = omega arith in
    stop (laid_at a.c) 0 l.i (length a.s.now / 5) e _ l.invariant
