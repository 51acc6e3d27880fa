-- `motion::saving::walk::check_walk` meets its contract.
use mathlib.Core.Path.{refl, ◌∙◌}
use native.Mathlib.Omega.{arith}
use Prim.Native.Nat.{◌-◌}
use Rattle.motion.proofs.saving.Walks.{record-there, listed-fits, record-refuses, past-limit, up-to-limit, none_left, stops, next}
use Rattle.motion.proofs.saving.walk.check_walk.Goals as goal

pub returns-then-answer-ne0 : goal.returns-then-answer-ne0
returns-then-answer-ne0 c =
    let i = c.loop-x.invariant in
    stops _ _ _ _ _ _ _ i.1 c.loop-x-test.true (record-refuses _ _ _ _ _ c.listed_cells-n.ensures c.check_record-answer.ensures c.if-answer-ne0.true) c.if-answer-ne0.true ∙ i.3

pub width_at-last-requires : goal.width_at-last-requires
width_at-last-requires c =
    let p = c.requires in
    let t = c.loop-x-test.true in
    let h = record-there _ _ _ _ c.check_record-answer.ensures c.if-answer-ne0.false in
    (omega arith, listed-fits _ _ _ _ c.listed_cells-n.ensures p.1 h, c.loop-x.invariant.2)

pub returns-then-w-x : goal.returns-then-w-x
returns-then-w-x c =
    let i = c.loop-x.invariant in
    stops _ _ _ _ _ _ _ i.1 c.loop-x-test.true (past-limit _ _ _ _ _ c.listed_cells-n.ensures c.check_record-answer.ensures c.if-answer-ne0.false c.width_at-last.ensures.0 c.if-w-x.true) (λ z. absurd (omega arith)) ∙ i.3

pub loop-x-preserved : goal.loop-x-preserved
loop-x-preserved c =
    let i = c.loop-x.invariant in
    let e = c.width_at-last.ensures in
    let z = up-to-limit _ _ _ _ _ c.listed_cells-n.ensures c.check_record-answer.ensures c.if-answer-ne0.false e.0 c.if-w-x.false in
    (i.0 - 1, omega (arith, i.1, e.2), e.1, next _ _ _ _ _ _ _ i.1 c.loop-x-test.true z refl e.0 ∙ i.3)

pub returns : goal.returns
returns c = none_left _ _ _ _ _ _ _ c.loop-x-test.false ∙ c.loop-x.invariant.3
