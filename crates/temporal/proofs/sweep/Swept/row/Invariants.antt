-- `temporal::sweep::Swept::row` meets its contract.
use Rattle.std.proofs.Common.{◌+◌, ◌*◌, ◌≤◌}
use Rattle.stack.specs.Code.Numbers.{view_at, heft_at, Held}
use Rattle.temporal.specs.Temporal.{cell_read}
use Rattle.temporal.specs.Sweep.{in_row}
use Rattle.temporal.proofs.Sweeps.{Left}
use Rattle.temporal.proofs.sweep.Swept.row.Given as goal

abbrev pub invariant-loop-k : goal.invariant-loop-k
invariant-loop-k l =
    let go = (in_row (cell_read l.self.proj.now l.self.field.total) l.self.aim l.step.0) in
    record {
      held : Held l.s;
      light : heft_at l.s ≤ heft_at l.initial.s + 2 * l.k;
      rest : Left go l.step.0 l.n l.first l.k (go l.n l.first (view_at l.initial.s)) (view_at l.s);
    }
