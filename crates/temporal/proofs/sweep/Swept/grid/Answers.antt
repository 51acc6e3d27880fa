-- `temporal::sweep::Swept::grid` meets its contract.
use Rattle.std.proofs.Common.{refl, sym, ◌∙◌, arith}
use Rattle.stack.specs.Code.Numbers.{found_at}
use Rattle.stack.proofs.Answers.{is_found, is-refused}
use Rattle.temporal.proofs.Sweeps.{grid-turns, turns-end, turns-refused, turns-on}
use Rattle.temporal.proofs.sweep.Swept.grid.Goals as goal

pub returns-then-r-ne0-clause-s_after : goal.returns-then-r-ne0-clause-s_after
returns-then-r-ne0-clause-s_after c =
    turns-refused (grid-turns _ _ _ _ _) c.loop-k.invariant.rest c.loop-k-test.true c.row-r.ensures.s_after (is-refused _ _ c.if-r-ne0.true)

pub loop-k-preserved : goal.loop-k-preserved
loop-k-preserved c =
    record {
      held = c.row-r.ensures.held.0;
      light = omega arith;
      rest = turns-on (grid-turns _ _ _ _ _) c.loop-k.invariant.rest c.loop-k-test.true c.row-r.ensures.s_after (is_found _ _ c.if-r-ne0.false);
    }

pub returns-clause-s_after : goal.returns-clause-s_after
returns-clause-s_after c = is_found 0 (found_at c.loop-k.s) refl ∙ sym (turns-end (grid-turns _ _ _ _ _) c.loop-k.invariant.rest (omega arith))
