-- `motion::landing::source::check_sources` meets its contract.
use Rattle.ground.specs.Span.{first_of}
use Rattle.ground.proofs.Spans.{asked, ask-on, ask-stops}
use Rattle.motion.specs.landing.Row.{cell_read, sources_read, source_at}
use Prim.Native.Nat.{ℕ}
use mathlib.Core.Path.{ap₂, ◌∙◌}
use Rattle.motion.proofs.landing.source.check_sources.Goals as goal

pub returns-then-answer-ne0 : goal.returns-then-answer-ne0
unfolding sources_read
returns-then-answer-ne0 c =
    let a = c.args in
    let l = c.loop-x in
    ask-stops _ _ _ c.loop-x-test.true c.check_cell-answer.ensures c.if-answer-ne0.true ∙ l.invariant ∙ ap₂ (λ (x z : ℕ). first_of (cell_read (source_at a.src.now a.first)) x z) c.source_start-x.ensures c.source_end-x-end.ensures.0

pub loop-x-preserved : goal.loop-x-preserved
loop-x-preserved c = ask-on _ _ _ c.loop-x-test.true c.check_cell-answer.ensures c.if-answer-ne0.false ∙ c.loop-x.invariant

pub returns : goal.returns
unfolding sources_read
returns c =
    let a = c.args in
    let l = c.loop-x in
    asked _ _ _ c.loop-x-test.false ∙ l.invariant ∙ ap₂ (λ (x z : ℕ). first_of (cell_read (source_at a.src.now a.first)) x z) c.source_start-x.ensures c.source_end-x-end.ensures.0
