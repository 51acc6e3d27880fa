-- `search::extend::compound_where` meets its contract.
use mathlib.Core.Path.{◌∙◌}
use borrow.Author.Tests.{eq-eqb}
use Rattle.search.specs.Code.Walk.{pooled}
use Rattle.search.specs.Extend.{compound_where}
use Rattle.search.proofs.Extends.{near-walked, compound-is}
use Rattle.search.proofs.extend.compound_where.Goals as goal

pub returns-then-depth-eq0 : goal.returns-then-depth-eq0
unfolding compound_where pooled
returns-then-depth-eq0 c = rw (← c.depth.ensures, eq-eqb _ _ c.if-depth-eq0.true)

pub compound_along-requires : goal.compound_along-requires
compound_along-requires c =
    let f = c in
    near-walked f.args.down f.args.b f.requires c.near_line.ensures c.extra_limit-limit.ensures.1

pub returns : goal.returns
returns c =
    let a = c.args in
    compound-is _ a.b a.down _ c.near_line.ensures c.extra_limit-limit.ensures.0 (λ z. c.if-depth-eq0.false (c.depth.ensures ∙ z)) _ _ c.compound_along.ensures
