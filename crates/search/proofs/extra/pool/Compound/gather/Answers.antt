-- `search::extra::pool::Compound::gather` meets its contract.
use mathlib.Core.Path.{◌≡◌, sym, ◌∙◌}
use mathlib.Core.Bool.{true}
use Rattle.cells.specs.Cell.{is_ref}
use Rattle.search.specs.extra.Lists.{lists_of}
use Rattle.search.specs.extra.Pool.{gathered_all, gathered_by}
use Rattle.search.proofs.extra.Turns.{near_first, near-second}
use Rattle.search.proofs.extra.pool.Compound.gather.Goals as goal

pub returns-then-not-is_ref : goal.returns-then-not-is_ref
unfolding gathered_by lists_of gathered_all
returns-then-not-is_ref c = rw (← c.is_ref.ensures, c.if-not-is_ref.true)

pub gather_list-q-requires : goal.gather_list-q-requires
gather_list-q-requires c =
    let s = c in
    let t : is_ref s.args.k.refs.first ≡ true = sym c.is_ref.ensures ∙ c.if-not-is_ref.false in
    let p = s.requires in
    (t, near_first s.args.k p t)

pub returns-then-not-is_ref-2 : goal.returns-then-not-is_ref-2
unfolding gathered_by lists_of gathered_all
returns-then-not-is_ref-2 c = rw (← c.is_ref.ensures, c.if-not-is_ref.false, ← c.is_ref-2.ensures, c.if-not-is_ref-2.true) c.gather_list-q.ensures

pub gather_list-requires : goal.gather_list-requires
gather_list-requires c =
    let s = c in
    let t : is_ref s.args.k.refs.second ≡ true = sym c.is_ref-2.ensures ∙ c.if-not-is_ref-2.false in
    let p = s.requires in
    (t, near-second s.args.k p t)

pub returns : goal.returns
unfolding gathered_by lists_of gathered_all
returns c = rw (← c.is_ref.ensures, c.if-not-is_ref.false, ← c.is_ref-2.ensures, c.if-not-is_ref-2.false) (rw c.gather_list-q.ensures at c.gather_list.ensures)
