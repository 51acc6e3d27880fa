-- `jaskkovir::frames::set_up` meets its contract.
use mathlib.Core.Path.{sym, ◌∙◌}
use Rattle.ground.proofs.Answers.{run-refused}
use Rattle.jaskkovir.proofs.Lent.{written}
use Rattle.jaskkovir.proofs.frames.set_up.Goals as goal

pub returns-then-answer-ne0 : goal.returns-then-answer-ne0
returns-then-answer-ne0 c = let e = c.check_description-answer.ensures in record { value = e; frame_after = run-refused _ _ _ (λ z. c.if-answer-ne0.true (e ∙ z)) }

pub returns : goal.returns
returns c = let e = c.check_description-answer.ensures in record { value = e; frame_after = written _ _ _ (sym e ∙ c.if-answer-ne0.false) c.put_frame.ensures }
