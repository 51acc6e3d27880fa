-- `search::front::context::context_of` meets its contract.
use Rattle.search.specs.front.Context.{context_of}
use Rattle.search.proofs.front.context.context_of.Goals as goal

pub returns-then-compound : goal.returns-then-compound
unfolding context_of
returns-then-compound c = rw (← c.ref_context-by_ref.ensures.0, ← c.new_context-by_new.ensures.0, c.if-compound.true, ← c.compound_context.ensures)

pub returns : goal.returns
unfolding context_of
returns c = rw (← c.ref_context-by_ref.ensures.0, ← c.new_context-by_new.ensures.0, c.if-compound.false)
