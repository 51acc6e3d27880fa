-- `capture::player::play::play_batch` meets its contract.
use Rattle.order.specs.Desk.{given_by}
use Rattle.capture.proofs.player.Outcomes.{few, batch-refused, batch-played}
use Rattle.capture.proofs.player.play.play_batch.Goals as goal

pub returns-then-answer-ne0 : goal.returns-then-answer-ne0
returns-then-answer-ne0 c = let a = c.args in let it = batch-refused (given_by a.inputs.now) a.b a.proj.now a.saved.now c.admit-answer.ensures c.if-answer-ne0.true in rw c.refused.ensures (record { answer_value = it.0; stride_value = it.1.0; saved_after = it.1.1 })

pub play_all-done-requires : goal.play_all-done-requires
play_all-done-requires c = let a = c.args in few (given_by a.inputs.now) a.b a.proj.now a.saved.now c.admit-answer.ensures c.if-answer-ne0.false

pub returns : goal.returns
returns c =
    let a = c.args in
    let it = batch-played (given_by a.inputs.now) a.b a.proj.now a.saved.now c.admit-answer.ensures c.if-answer-ne0.false c.blank_projection.ensures c.blank_saved.ensures c.play_all-done.ensures in record { answer_value = it.0; stride_value = it.1.0; saved_after = it.1.1 }
