-- `temporal::sweep::Swept::row` meets its contract.
use Rattle.std.proofs.Common.{refl, sym, ◌∙◌, arith}
use Rattle.stack.specs.Code.Numbers.{found_at}
use Rattle.stack.proofs.Answers.{is_found, is-refused}
use Rattle.temporal.proofs.Sweeps.{row-turns, turns-end, turns-refused, turns-on}
use Rattle.temporal.proofs.sweep.Swept.row.Goals as goal

pub returns-then-r-ne0-clause-s_after : goal.returns-then-r-ne0-clause-s_after
returns-then-r-ne0-clause-s_after c =
    turns-refused (row-turns _ _ _) c.loop-k.invariant.rest c.loop-k-test.true c.visit-r.ensures.s_after (is-refused _ _ c.if-r-ne0.true)

pub loop-k-preserved : goal.loop-k-preserved
loop-k-preserved c =
    record {
      held = c.visit-r.ensures.held.0;
      light = omega arith;
      rest = turns-on (row-turns _ _ _) c.loop-k.invariant.rest c.loop-k-test.true c.visit-r.ensures.s_after (is_found _ _ c.if-r-ne0.false);
    }

pub returns-clause-s_after : goal.returns-clause-s_after
returns-clause-s_after c = is_found 0 (found_at c.loop-k.s) refl ∙ sym (turns-end (row-turns _ _ _) c.loop-k.invariant.rest (omega arith))
