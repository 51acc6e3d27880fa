-- `motion::loading::load::check_steps` meets its contract.
use Rattle.ground.specs.Span.{first_of}
use Rattle.ground.proofs.Spans.{asked, ask-on, ask-stops}
use Rattle.motion.specs.loading.Fields.{all_used, cells_of}
use Rattle.motion.specs.loading.Load.{step_read}
use Rattle.motion.proofs.loading.Steps.{readable}
use native.Mathlib.Omega.{arith}
use mathlib.Core.Path.{ap, ◌∙◌}
use Rattle.motion.proofs.loading.load.check_steps.Goals as goal

pub check_step-answer-requires : goal.check_step-answer-requires
check_step-answer-requires c = readable _ _ _ _ c.requires (omega (arith, c.steps_of-k-end.ensures, c.loop-k-test.true))

pub returns-then-answer-ne0 : goal.returns-then-answer-ne0
returns-then-answer-ne0 c =
    let a = c.args in
    ask-stops _ _ _ c.loop-k-test.true c.check_step-answer.ensures c.if-answer-ne0.true ∙ c.loop-k.invariant ∙ ap (first_of (step_read (cells_of (all_used a.fields) a.w.stride.0) a.w) 0) c.steps_of-k-end.ensures

pub loop-k-preserved : goal.loop-k-preserved
loop-k-preserved c = ask-on _ _ _ c.loop-k-test.true c.check_step-answer.ensures c.if-answer-ne0.false ∙ c.loop-k.invariant

pub returns : goal.returns
returns c =
    let a = c.args in
    asked _ _ _ c.loop-k-test.false ∙ c.loop-k.invariant ∙ ap (first_of (step_read (cells_of (all_used a.fields) a.w.stride.0) a.w) 0) c.steps_of-k-end.ensures
