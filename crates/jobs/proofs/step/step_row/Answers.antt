-- `jobs::step::step_row` meets its contract.
use native.Mathlib.Omega.{arith}
use lib.ListN.{length}
use Rattle.jobs.specs.Inputs.{handed_with}
use Rattle.jobs.proofs.Steps.{due, stays, goes}
use Rattle.jobs.proofs.step.step_row.Goals as goal

pub returns-then-number-ne0 : goal.returns-then-number-ne0
returns-then-number-ne0 c =
    let s = c.args in
    let it = stays (handed_with s.inputs.now (length s.proj.now) (length s.saved.now)) s.job s.proj.now s.saved.now c.step_number-number.ensures c.if-number-ne0.true c.answer_of.ensures in record { value = it.0; proj_after = it.1.0; saved_after = it.1.1 }

pub do_work-requires : goal.do_work-requires
do_work-requires c =
    let s = c.args in
    let d = due (handed_with s.inputs.now (length s.proj.now) (length s.saved.now)) s.job c.step_number-number.ensures c.if-number-ne0.false in
    record { able = d.able; room = (d.room, d.under); k_value = d.reads }

pub overflow_add-result : goal.overflow_add-result
overflow_add-result c =
    let s = c.args in
    let d = due (handed_with s.inputs.now (length s.proj.now) (length s.saved.now)) s.job c.step_number-number.ensures c.if-number-ne0.false in
    omega (arith, d.small)

pub returns : goal.returns
returns c =
    let s = c.args in
    let it = goes (handed_with s.inputs.now (length s.proj.now) (length s.saved.now)) s.job s.proj.now s.saved.now c.step_number-number.ensures c.if-number-ne0.false c.do_work.ensures.proj_after c.do_work.ensures.saved_after in record { value = it.0; proj_after = it.1.0; saved_after = it.1.1 }
