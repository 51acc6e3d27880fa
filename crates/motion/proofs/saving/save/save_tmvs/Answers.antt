-- `motion::saving::save::save_tmvs` meets its contract.
use mathlib.Core.Path.{sym, ◌∙◌}
use Rattle.ground.proofs.Answers.{run-refused}
use Rattle.motion.specs.saving.Save.{save_script}
use Rattle.motion.proofs.saving.Saves.{ready, front-refuses, reads-answer}
use Rattle.motion.proofs.saving.save.save_tmvs.Goals as goal

pub returns-then-front-ne0 : goal.returns-then-front-ne0
unfolding save_script
returns-then-front-ne0 c = let s = c.args in let e = front-refuses s.recs.now s.f s.a s.sby s.pass _ c.save_front-front.ensures c.if-front-ne0.true in record { value = e; field_after = run-refused _ _ _ (λ z. c.if-front-ne0.true (e ∙ z)) }

pub check_rows-answer-requires : goal.check_rows-answer-requires
check_rows-answer-requires c = let s = c.args in ready s.f s.a s.pass _ _ c.save_front-front.ensures c.if-front-ne0.false

pub returns-then-answer-ne0 : goal.returns-then-answer-ne0
unfolding save_script
returns-then-answer-ne0 c = let s = c.args in let e = reads-answer s.recs.now s.f s.a s.sby s.pass _ c.save_front-front.ensures c.if-front-ne0.false c.check_rows-answer.ensures in record { value = e; field_after = run-refused _ _ _ (λ z. c.if-answer-ne0.true (e ∙ z)) }

pub save_rows-requires : goal.save_rows-requires
save_rows-requires c = let s = c.args in sym (reads-answer s.recs.now s.f s.a s.sby s.pass _ c.save_front-front.ensures c.if-front-ne0.false c.check_rows-answer.ensures) ∙ c.if-answer-ne0.false

pub returns-clause-value : goal.returns-clause-value
returns-clause-value c =
    let s = c.args in
    sym c.if-answer-ne0.false ∙ reads-answer s.recs.now s.f s.a s.sby s.pass _ c.save_front-front.ensures c.if-front-ne0.false c.check_rows-answer.ensures
