-- `jaskkovir::searches::jaskkovir_find` meets its contract.
use mathlib.Core.Path.{sym, ◌∙◌}
use Rattle.jaskkovir.specs.Searched.{found_in, searched_answer, searched_stack, searched_found}
use Rattle.jaskkovir.proofs.Sought.{short, long}
use Rattle.jaskkovir.proofs.searches.jaskkovir_find.Goals as goal

pub returns-then-find_lacks : goal.returns-then-find_lacks
unfolding searched_answer searched_stack searched_found
returns-then-find_lacks c = let it = short _ _ _ _ _ _ (sym c.find_lacks.ensures.value ∙ c.if-find_lacks.true) in record { value = it.0; stack_after = it.1.0; found_after = it.1.1 }

pub returns : goal.returns
unfolding searched_answer searched_stack searched_found found_in
returns c =
    let f = c.find_into.ensures in
    let it = long _ _ _ _ _ _ (sym c.find_lacks.ensures.value ∙ c.if-find_lacks.false) f.value f.stack_after f.out_after in record { value = it.0; stack_after = it.1.0; found_after = it.1.1 }
