-- `motion::landing::run::load_row` meets its contract.
use Rattle.ground.proofs.Spans.{start, on, stop}
use Rattle.motion.specs.landing.Row.{row_script}
use native.Mathlib.Omega.{arith}
use mathlib.Core.Path.{refl, ◌∙◌}
use Rattle.motion.proofs.landing.run.load_row.Goals as goal

pub loop-x-init : goal.loop-x-init
loop-x-init c =
    let e = c.source_start-x.ensures in
    (omega arith, omega arith, refl, stop _ _ _ _ (omega arith) _ (start _ _ _))

pub loop-x-preserved : goal.loop-x-preserved
loop-x-preserved c =
    let l = c.loop-x in
    let f = c.follow-x in
    (omega arith, omega arith, f.auto.proj ∙ l.invariant.2, on _ _ _ _ l.invariant.0 (omega arith) _ l.invariant.3 f.ensures.proj_after)

pub returns : goal.returns
unfolding row_script
returns c =
    let e = c.source_end-end.ensures in
    stop _ _ _ _ (omega arith) _ c.loop-x.invariant.3
