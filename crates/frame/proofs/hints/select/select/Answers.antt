-- `frame::hints::select::select` meets its contract.
use mathlib.Core.Path.{sym, ap, ◌∙◌}
use Rattle.frame.specs.hints.Selection.{as_selection}
use Rattle.frame.proofs.hints.Selections.{nothing, all-turns, selected-on, selected-off}
use Rattle.frame.proofs.hints.select.select.Goals as goal

pub returns-then-is_searched : goal.returns-then-is_searched
returns-then-is_searched c = c.by_count.ensures ∙ ap as_selection (all-turns _ _ ∙ sym (selected-on _ _ (sym c.is_searched.ensures ∙ c.if-is_searched.true)))

pub returns : goal.returns
returns c = nothing ∙ ap as_selection (sym (selected-off _ _ (sym c.is_searched.ensures ∙ c.if-is_searched.false)))
