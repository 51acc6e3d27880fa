-- `jaskkovir::batches::jaskkovir_admit` meets its contract.
use mathlib.Core.Path.{sym, ◌∙◌}
use lib.ListN.{length}
use Rattle.ground.proofs.Picks.{pick_true, pick-false}
use Rattle.jaskkovir.specs.Batched.{admitted_answer}
use Rattle.jaskkovir.proofs.batches.jaskkovir_admit.Goals as goal

pub returns-then-load_lacks : goal.returns-then-load_lacks
unfolding admitted_answer
returns-then-load_lacks c = sym (pick_true _ (sym c.load_lacks.ensures.value ∙ c.if-load_lacks.true))

pub returns : goal.returns
unfolding admitted_answer
returns c =
    rw (← c.batch_of.ensures, ← c.inputs_in-inputs.ensures _ _)
    (c.admit.ensures ∙ sym (pick-false 4 (sym c.load_lacks.ensures.value ∙ c.if-load_lacks.false)))
