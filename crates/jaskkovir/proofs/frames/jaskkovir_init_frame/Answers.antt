-- `jaskkovir::frames::jaskkovir_init_frame` meets its contract.
use mathlib.Core.Path.{sym, ◌∙◌}
use Rattle.layout.specs.DescriptionBytes.{described}
use Rattle.jaskkovir.specs.Framed.{init_answer, init_script}
use Rattle.jaskkovir.proofs.Lent.{refused-short, answered}
use Rattle.jaskkovir.proofs.frames.jaskkovir_init_frame.Goals as goal

pub returns-then-init_lacks : goal.returns-then-init_lacks
unfolding init_answer init_script
returns-then-init_lacks c = let it = refused-short _ _ _ _ (sym c.init_lacks.ensures.value ∙ c.if-init_lacks.true) in record { value = it.0; frame_after = it.1 }

pub returns : goal.returns
unfolding init_answer init_script described
returns c = rw (← c.first_bytes.ensures, ← c.first_bytes-held.ensures, ← c.first_bytes-own.ensures) (let it = (answered _ _ _ _ (sym c.init_lacks.ensures.value ∙ c.if-init_lacks.false) c.set_up.ensures.value c.set_up.ensures.frame_after) in record { value = it.0; frame_after = it.1 })
