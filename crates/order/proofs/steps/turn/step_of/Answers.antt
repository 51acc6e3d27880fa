-- `order::steps::turn::step_of` meets its contract.
use mathlib.Core.Path.{sym}
use lib.ListN.{length}
use Rattle.jobs.specs.Inputs.{handed_with}
use Rattle.order.proofs.steps.Turns.{named, unnamed, turned}
use borrow.Author.Rules.{rules}
use Rattle.order.proofs.steps.turn.step_of.Goals as goal

pub returns-then-not-is_named : goal.returns-then-not-is_named
returns-then-not-is_named c =
    let s = c.args in
    let it = unnamed (handed_with s.inputs.now (length s.proj.now) (length s.saved.now)) s.batch s.k s.proj.now s.saved.now (sym c.if-not-is_named.ensures) in
    record { value = it.0; proj_after = it.1.0; saved_after = it.1.1 }

pub offset_bounds-batch-k : goal.offset_bounds-batch-k
offset_bounds-batch-k c = let g = named c.args.batch c.args.k (sym c.if-not-is_named.ensures) in search rules

pub bounds-batch-k : goal.bounds-batch-k
bounds-batch-k c = named c.args.batch c.args.k (sym c.if-not-is_named.ensures)

pub returns : goal.returns
returns c =
    let s = c.args in
    let r = c.step-answer.ensures in
    let z = turned (handed_with s.inputs.now (length s.proj.now) (length s.saved.now)) s.batch s.k s.proj.now s.saved.now (sym c.if-not-is_named.ensures) r.value r.job_after r.proj_after r.saved_after in
    record { value = z.0; proj_after = z.1.0; saved_after = z.1.1 }
