-- `jaskkovir::frames::jaskkovir_listed_sizes` meets its contract.
use borrow.Author.Rules.{rules}
use mathlib.Core.Path.{sym, ap, ◌∙◌}
use Rattle.ground.specs.Put.{put}
use Rattle.ground.proofs.Answers.{run-refused}
use Rattle.layout.specs.FrameBytes.{frame_at}
use Rattle.jaskkovir.specs.Framed.{listed_bytes, listed_answer, listed_script}
use Rattle.jaskkovir.proofs.Lent.{written, refused-short, answered, checked-sizes}
use Rattle.jaskkovir.proofs.frames.jaskkovir_listed_sizes.Goals as goal

pub returns-then-listed_lacks : goal.returns-then-listed_lacks
unfolding listed_answer listed_script
returns-then-listed_lacks c = let it = refused-short _ _ _ _ (sym c.listed_lacks.ensures.value ∙ c.if-listed_lacks.true) in record { value = it.0; sizes_after = it.1 }

pub returns-then-refusal-ne0 : goal.returns-then-refusal-ne0
unfolding listed_answer listed_script
returns-then-refusal-ne0 c = let e = c.check-refusal.ensures in let it = answered _ _ _ _ (sym c.listed_lacks.ensures.value ∙ c.if-listed_lacks.false) e (run-refused _ _ _ (λ z. c.if-refusal-ne0.true (e ∙ z))) in record { value = it.0; sizes_after = it.1 }

pub put_listed-requires : goal.put_listed-requires
put_listed-requires c = (search rules, checked-sizes c.args.frame.now c.sizes_at.ensures c.check-refusal.ensures c.if-refusal-ne0.false)

pub returns : goal.returns
unfolding listed_answer listed_script frame_at
returns c = let a = c.args in let e = sym c.if-refusal-ne0.false ∙ c.check-refusal.ensures in let it = answered _ _ _ _ (sym c.listed_lacks.ensures.value ∙ c.if-listed_lacks.false) e (written _ _ _ (sym e) (c.put_listed.ensures ∙ ap (λ z. put a.sizes.now 0 (listed_bytes z)) c.sizes_at.ensures)) in record { value = it.0; sizes_after = it.1 }
