-- `jaskkovir::tiles::jaskkovir_splat_mv` meets its contract.
use mathlib.Core.Path.{sym, ◌∙◌}
use Rattle.jaskkovir.specs.Tiled.{laid_answer, laid_script}
use Rattle.jaskkovir.proofs.Lent.{unlaid, laid}
use Rattle.jaskkovir.proofs.tiles.jaskkovir_splat_mv.Goals as goal

pub returns-then-splat_lacks : goal.returns-then-splat_lacks
unfolding laid_answer laid_script
returns-then-splat_lacks c = let it = unlaid _ _ _ _ (sym c.splat_lacks.ensures.value ∙ c.if-splat_lacks.true) in record { value = it.0; records_after = it.1 }

pub returns : goal.returns
unfolding laid_answer laid_script
returns c = rw (← c.splat_of.ensures) (let it = (laid _ _ _ _ (sym c.splat_lacks.ensures.value ∙ c.if-splat_lacks.false) c.splat.ensures.value c.splat.ensures.records_after) in record { value = it.0; records_after = it.1 })
