-- `motion::loading::fields::are_long` meets its contract.
use Rattle.motion.specs.loading.Fields.{long_enough}
use mathlib.Core.Path.{sym, ◌∙◌}
use Rattle.ground.proofs.Belows as belows
use Rattle.motion.proofs.loading.fields.are_long.Goals as goal

pub loop-i-init : goal.loop-i-init
loop-i-init c = belows.none _

pub returns-then-not-is_long : goal.returns-then-not-is_long
unfolding long_enough
returns-then-not-is_long c =
    let a = c.args in
    let l = c.loop-i in
    sym (belows.one-fails (long_enough a.need a.us a.lent a.lengths) _ l.i c.loop-i-test.true (sym c.is_long.ensures ∙ c.if-not-is_long.true))

pub loop-i-preserved : goal.loop-i-preserved
unfolding long_enough
loop-i-preserved c =
    let a = c.args in
    let l = c.loop-i in
    belows.up (long_enough a.need a.us a.lent a.lengths) l.i (belows.one_more _ l.i l.invariant (sym c.is_long.ensures ∙ c.if-not-is_long.false))
