-- `capture::player::play::play_capture` meets its contract.
use Rattle.std.proofs.Common.{◌∙◌, arith}
use Rattle.capture.proofs.player.Opens.{malformed}
use Rattle.capture.proofs.player.Outcomes.{unopened}
use Rattle.capture.proofs.player.play.play_capture.Goals as goal

pub returns-in-Err-clause-answer_value : goal.returns-in-Err-clause-answer_value
returns-in-Err-clause-answer_value c =
    let m = malformed _ c.in-Err.ensures in
    rw c.refused.ensures ((unopened _ _ _ m.0 (c.batch_of.ensures ∙ m.1) (λ e. omega arith)).0)

pub returns-in-Err-clause-saved_after : goal.returns-in-Err-clause-saved_after
returns-in-Err-clause-saved_after c =
    let m = malformed _ c.in-Err.ensures in
    rw c.refused.ensures ((unopened _ _ _ m.0 (c.batch_of.ensures ∙ m.1) (λ e. omega arith)).1.1)
