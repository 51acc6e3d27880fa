-- `jaskkovir::motions::jaskkovir_load_tmvs` meets its contract.
use mathlib.Core.Path.{sym, ◌∙◌}
use Rattle.jaskkovir.specs.Moved.{loaded_answer, loaded_script}
use Rattle.jaskkovir.proofs.Lent.{unlaid, laid}
use Rattle.jaskkovir.proofs.motions.jaskkovir_load_tmvs.Goals as goal

pub returns-then-load_lacks : goal.returns-then-load_lacks
unfolding loaded_answer loaded_script
returns-then-load_lacks c = let it = unlaid _ _ _ _ (sym c.load_lacks.ensures.value ∙ c.if-load_lacks.true) in record { value = it.0; proj_after = it.1 }

pub returns : goal.returns
unfolding loaded_answer loaded_script
returns c =
    let us = c.uses_of-us in
    rw (← c.first_bytes.ensures, ← c.area_of.ensures, ← c.frame_at-f.ensures, ← us.ensures, ← c.used.ensures)
    (let it = (laid _ _ _ _ (sym c.load_lacks.ensures.value ∙ c.if-load_lacks.false) c.load_tmvs.ensures.value c.load_tmvs.ensures.proj_after) in record { value = it.0; proj_after = it.1 })
