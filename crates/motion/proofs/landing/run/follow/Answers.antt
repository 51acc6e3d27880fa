-- `motion::landing::run::follow` meets its contract.
use Rattle.motion.proofs.landing.Landings.{still-absent, still-apart, lent-apart, skipped, saved-ref, saved-near}
use Rattle.cells.specs.Cell.{well_saved}
use Rattle.motion.specs.landing.Lands.{landing}
use Rattle.motion.specs.landing.Row.{lane, source_at}
use native.Mathlib.Omega.{arith}
use mathlib.Core.Path.{sym, ap, ◌∙◌}
use Rattle.motion.proofs.landing.run.follow.Goals as goal

pub returns-then-saved_absent-clause-proj_after : goal.returns-then-saved_absent-clause-proj_after
unfolding lane source_at
returns-then-saved_absent-clause-proj_after c =
    let a = c.args in
    skipped _ _ _ (ap (landing a.w a.m a.y a.x) (sym c.read-c.ensures) ∙ still-absent _ _ _ _ _ (sym c.saved_absent.ensures ∙ c.if-saved_absent.true))

pub apart_of-den-requires : goal.apart_of-den-requires
unfolding source_at
apart_of-den-requires c =
    (c.requires.apart_value.1, saved-ref _ (ap well_saved c.read-c.ensures ∙ c.requires.x_value) (sym c.saved_absent.ensures ∙ c.if-saved_absent.false))

pub returns-then-den-eq0-clause-proj_after : goal.returns-then-den-eq0-clause-proj_after
unfolding lane source_at
returns-then-den-eq0-clause-proj_after c =
    let a = c.args in
    let r = c.read-c in
    skipped _ _ _ (ap (landing a.w a.m a.y a.x) (sym r.ensures) ∙ still-apart _ _ _ _ _ (sym (lent-apart a.m r.result _ c.requires.apart_value.0 c.apart_of-den.ensures) ∙ c.if-den-eq0.true))

pub take_run-requires-clause-taken : goal.take_run-requires-clause-taken
unfolding source_at
take_run-requires-clause-taken c =
    let r = c.read-c in
    let n = sym c.saved_absent.ensures ∙ c.if-saved_absent.false in
    record {
      some = n;
      is = lent-apart c.args.m r.result _ c.requires.apart_value.0 c.apart_of-den.ensures;
      apart = omega (arith, c.if-den-eq0.false);
      near = saved-near _ (ap well_saved r.ensures ∙ c.requires.x_value) n;
    }

pub take_run-requires-clause-c_value : goal.take_run-requires-clause-c_value
unfolding source_at
take_run-requires-clause-c_value c = c.read-c.ensures
