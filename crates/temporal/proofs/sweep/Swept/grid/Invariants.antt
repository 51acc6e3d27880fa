-- `temporal::sweep::Swept::grid` meets its contract.
use Rattle.std.proofs.Common.{◌+◌, ◌*◌, ◌≤◌}
use Rattle.stack.specs.Code.Numbers.{view_at, heft_at, Held}
use Rattle.temporal.specs.Temporal.{cell_read}
use Rattle.temporal.specs.Sweep.{in_grid}
use Rattle.temporal.proofs.Sweeps.{Left}
use Rattle.temporal.proofs.sweep.Swept.grid.Given as goal

abbrev pub invariant-loop-k : goal.invariant-loop-k
invariant-loop-k l =
    let go = (in_grid (cell_read l.self.proj.now l.self.field.total) l.self.aim l.step.0 l.n l.down) in
    record {
      held : Held l.s;
      light : heft_at l.s ≤ heft_at l.initial.s + 16 * l.k;
      rest : Left go l.down l.m l.self.field.first l.k (go l.m l.self.field.first (view_at l.initial.s)) (view_at l.s);
    }
