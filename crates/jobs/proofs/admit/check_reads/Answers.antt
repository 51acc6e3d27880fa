-- `jobs::admit::check_reads` meets its contract.
use mathlib.Core.Path.{refl, ap, ◌∙◌}
use native.Mathlib.Omega.{arith}
use Rattle.ground.specs.Span.{first_of}
use Rattle.ground.proofs.Spans.{asked, ask-on, ask-stops}
use Rattle.jobs.specs.Inputs.{used_sources}
use Rattle.jobs.specs.work.Work.{admit_read}
use Rattle.jobs.specs.Admit.{job_reads}
use Rattle.jobs.proofs.admit.check_reads.Goals as goal

pub count_of-n-requires : goal.count_of-n-requires
count_of-n-requires c = c.requires.f_value

pub loop-k-init : goal.loop-k-init
loop-k-init c = refl

pub check_work-answer-requires : goal.check_work-answer-requires
check_work-answer-requires c = let s = c in record { able = s.requires.able; k_bound = omega (arith, c.count_of-n.ensures, c.loop-k-test.true) }

pub returns-then-answer-ne0 : goal.returns-then-answer-ne0
unfolding job_reads
returns-then-answer-ne0 c =
    let s = c in
    ask-stops _ _ _ c.loop-k-test.true c.check_work-answer.ensures c.if-answer-ne0.true ∙ c.loop-k.invariant ∙ ap (first_of (admit_read s.args.inputs.now.frame (used_sources s.args.inputs.now) s.args.inputs.now.recs.now s.args.job) 0) c.count_of-n.ensures

pub loop-k-preserved : goal.loop-k-preserved
loop-k-preserved c = ask-on _ _ _ c.loop-k-test.true c.check_work-answer.ensures c.if-answer-ne0.false ∙ c.loop-k.invariant

pub returns : goal.returns
unfolding job_reads
returns c =
    let s = c in
    asked _ _ _ c.loop-k-test.false ∙ c.loop-k.invariant ∙ ap (first_of (admit_read s.args.inputs.now.frame (used_sources s.args.inputs.now) s.args.inputs.now.recs.now s.args.job) 0) c.count_of-n.ensures
