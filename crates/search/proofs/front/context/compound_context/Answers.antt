-- `search::front::context::compound_context` meets its contract.
use mathlib.Core.Path.{◌∙◌}
use Rattle.search.proofs.front.Contexts.{low-row, middle-row, high-first, high-row}
use Rattle.search.proofs.front.context.compound_context.Goals as goal

pub returns-then-by_ref-lt2 : goal.returns-then-by_ref-lt2
returns-then-by_ref-lt2 c = c.min.ensures ∙ low-row _ _ c.if-by_ref-lt2.true c.requires.1

pub returns-then-by_ref-lt4 : goal.returns-then-by_ref-lt4
returns-then-by_ref-lt4 c = rw c.min-then-by_ref-lt4.ensures (middle-row _ _ c.if-by_ref-lt2.false c.if-by_ref-lt4.true c.requires.1)

pub returns-then-by_new-eq0 : goal.returns-then-by_new-eq0
returns-then-by_new-eq0 c = high-first _ _ c.if-by_ref-lt4.false c.requires.0 c.if-by_new-eq0.true

pub returns : goal.returns
returns c = rw c.min-2.ensures (high-row _ _ c.if-by_ref-lt4.false c.requires c.if-by_new-eq0.false)
