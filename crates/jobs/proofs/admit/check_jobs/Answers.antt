-- `jobs::admit::check_jobs` meets its contract.
use mathlib.Core.Path.{refl, ◌∙◌}
use Rattle.ground.proofs.Spans.{asked, ask-on, ask-stops}
use Rattle.jobs.specs.job.Job.{job_at}
use Rattle.jobs.specs.Admit.{job_answer}
use Rattle.jobs.specs.Inputs.{handed_with}
use Rattle.jobs.proofs.admit.check_jobs.Goals as goal

pub loop-i-init : goal.loop-i-init
loop-i-init c = refl

pub returns-then-answer-ne0 : goal.returns-then-answer-ne0
returns-then-answer-ne0 c =
    let s = c.args in
    ask-stops (λ k. job_answer (handed_with s.inputs.now s.proj s.saved) (job_at s.batch k)) _ _ c.loop-i-test.true c.check_job-answer.ensures c.if-answer-ne0.true ∙ c.loop-i.invariant

pub loop-i-preserved : goal.loop-i-preserved
loop-i-preserved c =
    let s = c.args in
    ask-on (λ k. job_answer (handed_with s.inputs.now s.proj s.saved) (job_at s.batch k)) _ _ c.loop-i-test.true c.check_job-answer.ensures c.if-answer-ne0.false ∙ c.loop-i.invariant

pub returns : goal.returns
returns c = asked _ _ _ c.loop-i-test.false ∙ c.loop-i.invariant
