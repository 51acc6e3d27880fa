-- `jobs::step::step_number` meets its contract.
use mathlib.Core.Path.{sym, ◌∙◌}
use Rattle.jobs.proofs.job.Fronts.{front}
use Rattle.jobs.specs.Inputs.{handed_with}
use Rattle.jobs.proofs.Admits.{front-told}
use Rattle.jobs.proofs.Steps.{ill-kind, front-stops, is-done, row-answers, to_read}
use Rattle.jobs.proofs.step.step_number.Goals as goal

pub returns-then-not-well_kind : goal.returns-then-not-well_kind
returns-then-not-well_kind c = ill-kind _ _ (sym c.well_kind.ensures ∙ c.if-not-well_kind.true)

pub returns-then-front-ne0 : goal.returns-then-front-ne0
returns-then-front-ne0 c =
    let s = c.args in
    let h = handed_with s.inputs.now s.proj s.saved in
    front-stops h s.job (sym c.well_kind.ensures ∙ c.if-not-well_kind.false) (front-told h s.job c.lengths.ensures c.job_front-front.ensures) c.if-front-ne0.true

pub count_of-requires : goal.count_of-requires
count_of-requires c = let p = front _ _ _ _ (sym c.job_front-front.ensures ∙ c.if-front-ne0.false) in (p.frame, p.area)

pub returns-then-job-count_of : goal.returns-then-job-count_of
returns-then-job-count_of c =
    let s = c.args in
    let h = handed_with s.inputs.now s.proj s.saved in
    is-done h s.job (sym c.well_kind.ensures ∙ c.if-not-well_kind.false) (front-told h s.job c.lengths.ensures c.job_front-front.ensures) c.if-front-ne0.false c.count_of.ensures c.if-job-count_of.true

pub check_work-requires : goal.check_work-requires
check_work-requires c =
    let s = c.args in
    let h = handed_with s.inputs.now s.proj s.saved in
    let it = to_read h s.job (front-told h s.job c.lengths.ensures c.job_front-front.ensures) c.if-front-ne0.false c.count_of.ensures c.if-job-count_of.false in record { able = it.0; k_bound = it.1 }

pub returns : goal.returns
returns c =
    let s = c.args in
    let h = handed_with s.inputs.now s.proj s.saved in
    row-answers h s.job (sym c.well_kind.ensures ∙ c.if-not-well_kind.false) (front-told h s.job c.lengths.ensures c.job_front-front.ensures) c.if-front-ne0.false c.count_of.ensures c.if-job-count_of.false c.check_work.ensures
