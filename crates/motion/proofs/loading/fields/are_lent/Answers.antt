-- `motion::loading::fields::are_lent` meets its contract.
use borrow.Author.Tests.{eq-eqb, ne_eqb}
use Rattle.motion.specs.loading.Fields.{is_lent}
use mathlib.Core.Bool.{not}
use mathlib.Core.Path.{sym, ap}
use Rattle.ground.proofs.Belows as belows
use Rattle.motion.proofs.loading.fields.are_lent.Goals as goal

pub loop-i-init : goal.loop-i-init
loop-i-init c = belows.none _

pub returns-then-form-k-eq0 : goal.returns-then-form-k-eq0
unfolding is_lent
returns-then-form-k-eq0 c =
    let a = c.args in
    sym (belows.one-fails (is_lent a.us a.lent) _ c.loop-i.i c.loop-i-test.true (ap not (eq-eqb _ 0 c.if-form-k-eq0.true)))

pub loop-i-preserved : goal.loop-i-preserved
unfolding is_lent
loop-i-preserved c =
    let a = c.args in
    let l = c.loop-i in
    belows.up (is_lent a.us a.lent) l.i (belows.one_more _ l.i l.invariant (ap not (ne_eqb _ 0 c.if-form-k-eq0.false)))
