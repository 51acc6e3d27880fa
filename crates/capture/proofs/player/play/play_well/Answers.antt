-- `capture::player::play::play_well` meets its contract.
use Rattle.std.proofs.Common.{[], sym, ap, ap₂, ◌∙◌}
use Rattle.frame.specs.Record.{frame_of}
use Rattle.motion.specs.declared.loading.used.Uses.{Uses}
use Rattle.motion.specs.loading.Used.{uses_of}
use Rattle.motion.specs.loading.Fields.{chosen}
use Rattle.motion.proofs.loading.Usings.{chosen_is}
use Rattle.order.specs.Desk.{given}
use Rattle.capture.specs.player.Opened.{fields_in}
use Rattle.capture.proofs.player.Opens.{judged-setup, well-answer}
use Rattle.capture.proofs.player.Outcomes.{unopened, played}
use Rattle.capture.proofs.player.play.play_well.Goals as goal

pub returns-then-answer-ne0-clause-answer_value : goal.returns-then-answer-ne0-clause-answer_value
returns-then-answer-ne0-clause-answer_value c =
    let b = c.batch_in-batch.ensures in
    rw c.refused.ensures
    ((unopened _ _ _ (c.judge-answer.ensures ∙ well-answer _ c.args.capture.now.well b c.described_in-d.ensures c.present_in-present.ensures) b c.if-answer-ne0.true).0)

pub returns-then-answer-ne0-clause-stride_value : goal.returns-then-answer-ne0-clause-stride_value
returns-then-answer-ne0-clause-stride_value c =
    let b = c.batch_in-batch.ensures in
    rw c.refused.ensures
    ((unopened _ [] [] (c.judge-answer.ensures ∙ well-answer _ c.args.capture.now.well b c.described_in-d.ensures c.present_in-present.ensures) b c.if-answer-ne0.true).1.0)

pub returns-then-answer-ne0-clause-saved_after : goal.returns-then-answer-ne0-clause-saved_after
returns-then-answer-ne0-clause-saved_after c =
    let b = c.batch_in-batch.ensures in
    rw c.refused.ensures
    ((unopened _ _ _ (c.judge-answer.ensures ∙ well-answer _ c.args.capture.now.well b c.described_in-d.ensures c.present_in-present.ensures) b c.if-answer-ne0.true).1.1)

pub made_frame-f-requires : goal.made_frame-f-requires
made_frame-f-requires c = judged-setup _ _ _ _ (sym c.judge-answer.ensures ∙ c.if-answer-ne0.false)

pub returns : goal.returns
returns c =
    let file = c.args.capture.now.entries.file.now in
    let b = c.batch_in-batch.ensures in
    let d = c.described_in-d.ensures in
    let p = c.present_in-present.ensures in
    let f = c.made_frame-f.ensures ∙ ap₂ frame_of d p in
    let us = c.uses_of-us.ensures ∙ ap uses_of f in
    let fs = chosen_is _ (fields_in file) c.field_in.ensures c.field_in-2.ensures c.field_in-3.ensures ∙ ap (λ (u : Uses). chosen u (fields_in file)) us in
    let it = played _ _ _ (c.judge-answer.ensures ∙ well-answer _ c.args.capture.now.well b d p) c.if-answer-ne0.false b
    (λ i. given (f i) (record { form = p i }) (fs i) (c.body.ensures i)) (c.play_batch.ensures.answer_value, (c.play_batch.ensures.stride_value, c.play_batch.ensures.saved_after)) in record { answer_value = it.0; stride_value = it.1.0; saved_after = it.1.1 }
