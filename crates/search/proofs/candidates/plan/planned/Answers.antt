-- `search::candidates::plan::planned` meets its contract.
use mathlib.Core.Path.{refl, sym, ◌∙◌}
use Rattle.search.proofs.candidates.Plans.{enough, lacks, finds, finds-none}
use Rattle.search.proofs.candidates.plan.planned.Goals as goal

pub returns-then-is_lacking : goal.returns-then-is_lacking
returns-then-is_lacking c =
    c.refusal.ensures ∙ lacks _ _ _ _ _ _ c.is_ref-compound.ensures (sym c.is_lacking.ensures ∙ c.if-is_lacking.true)

pub find-r-requires : goal.find-r-requires
find-r-requires c =
    let e = enough _ _ _ (sym c.is_lacking.ensures ∙ c.if-is_lacking.false) in
    (e.1, e.2, refl)

pub returns-then-r-ne0 : goal.returns-then-r-ne0
returns-then-r-ne0 c =
    let g = c in
    c.refusal-then-r-ne0.ensures
    ∙ finds-none _ _ _ _ _ _ g.is_ref-compound.ensures (sym g.is_lacking.ensures ∙ g.if-is_lacking.false) g.find-r.result _ g.find-r.ensures.s_after c.if-r-ne0.true

pub returns : goal.returns
returns c =
    let g = c in
    c.acceptance.ensures
    ∙ finds _ _ _ _ _ _ g.is_ref-compound.ensures (sym g.is_lacking.ensures ∙ g.if-is_lacking.false) g.find-r.result _ g.find-r.ensures.s_after
