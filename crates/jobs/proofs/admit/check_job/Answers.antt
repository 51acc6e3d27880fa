-- `jobs::admit::check_job` meets its contract.
use Rattle.jobs.specs.Inputs.{handed_with}
use Rattle.jobs.proofs.Admits.{front-told, front-answers, to-check, reads-answer}
use Rattle.jobs.proofs.admit.check_job.Goals as goal

pub returns-then-front-ne0 : goal.returns-then-front-ne0
returns-then-front-ne0 c =
    let s = c.args in
    let h = handed_with s.inputs.now s.proj s.saved in
    front-answers h s.job (front-told h s.job c.lengths.ensures c.job_front-front.ensures) c.if-front-ne0.true

pub check_reads-requires : goal.check_reads-requires
check_reads-requires c =
    let s = c.args in
    let h = handed_with s.inputs.now s.proj s.saved in
    let it = to-check h s.job (front-told h s.job c.lengths.ensures c.job_front-front.ensures) c.if-front-ne0.false in record { f_value = it.0; able = it.1 }

pub returns : goal.returns
returns c =
    let s = c.args in
    let h = handed_with s.inputs.now s.proj s.saved in
    reads-answer h s.job (front-told h s.job c.lengths.ensures c.job_front-front.ensures) c.if-front-ne0.false c.check_reads.ensures
