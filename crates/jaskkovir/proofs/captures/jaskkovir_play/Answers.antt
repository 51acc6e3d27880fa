-- `jaskkovir::captures::jaskkovir_play` meets its contract.
use borrow.Author.Tests.{lt-ltb, le-ltb}
use Rattle.jaskkovir.proofs.Shown.{too_short, refused, shown}
use Rattle.jaskkovir.proofs.captures.jaskkovir_play.Goals as goal

pub returns-then-steps-lt-STEPS : goal.returns-then-steps-lt-STEPS
returns-then-steps-lt-STEPS c = let it = too_short _ _ _ _ (lt-ltb _ _ c.if-steps-lt-STEPS.true) in record { value = it.0; proj_after = it.1.0; saved_after = it.1.1.0; steps_after = it.1.1.1 }

pub returns-then-answer-eq0 : goal.returns-then-answer-eq0
returns-then-answer-eq0 c = let p = c.play_capture-played.ensures in let it = shown _ _ _ _ (le-ltb _ _ c.if-steps-lt-STEPS.false) p.answer_value p.saved_after c.if-answer-eq0.true c.put_steps.ensures in record { value = it.0; proj_after = it.1.0; saved_after = it.1.1.0; steps_after = it.1.1.1 }

pub returns-else-answer-eq0 : goal.returns-else-answer-eq0
returns-else-answer-eq0 c = let p = c.play_capture-played.ensures in let it = refused _ _ _ _ (le-ltb _ _ c.if-steps-lt-STEPS.false) p.answer_value p.saved_after c.if-answer-eq0.false in record { value = it.0; proj_after = it.1.0; saved_after = it.1.1.0; steps_after = it.1.1.1 }
