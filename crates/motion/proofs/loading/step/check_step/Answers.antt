-- `motion::loading::step::check_step` meets its contract.
use Rattle.motion.proofs.loading.Steps.{row_under, row_field, clears-read, takes-read}
use native.Mathlib.Omega.{arith}
use mathlib.Core.Path.{◌∙◌}
use Rattle.motion.proofs.loading.step.check_step.Goals as goal

pub returns-then-pass-eq0 : goal.returns-then-pass-eq0
returns-then-pass-eq0 c = clears-read _ _ _ c.rows_of-rows.ensures c.if-pass-eq0.true

pub overflow_add-w : goal.overflow_add-w
overflow_add-w c =
    let s = c in
    omega (arith, row_under s.requires c.rows_of-rows.ensures, s.requires.low)

pub check_ref-requires : goal.check_ref-requires
check_ref-requires c =
    let s = c in
    let e = c.rows_of-rows.ensures in
    (row_field s.requires e c.if-pass-eq0.false, row_under s.requires e)

pub returns : goal.returns
returns c = c.check_ref.ensures ∙ takes-read _ _ _ c.rows_of-rows.ensures c.if-pass-eq0.false
