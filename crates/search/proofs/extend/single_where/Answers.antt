-- `search::extend::single_where` meets its contract.
use mathlib.Core.Path.{◌∙◌}
use borrow.Author.Tests.{eq-eqb}
use Rattle.stack.specs.Code.Found.{outcome}
use Rattle.search.specs.Extend.{single_where}
use Rattle.search.proofs.Extends.{near-walked, single-is}
use Rattle.search.proofs.extend.single_where.Goals as goal

pub returns-then-depth-eq0-clause-s_after : goal.returns-then-depth-eq0-clause-s_after
unfolding single_where outcome
returns-then-depth-eq0-clause-s_after c = let p = c.requires in rw (← c.depth.ensures, eq-eqb _ _ c.if-depth-eq0.true)

pub single_along-requires : goal.single_along-requires
single_along-requires c =
    let f = c in
    let p = f.requires in
    (near-walked f.args.down f.args.b p.0 c.near_line.ensures c.extra_limit-limit.ensures.1, p.1, p.2)

pub returns-clause-s_after : goal.returns-clause-s_after
returns-clause-s_after c =
    let a = c.args in
    let r = c.single_along.ensures in
    single-is _ a.b a.down _ c.near_line.ensures c.extra_limit-limit.ensures.0 (λ z. c.if-depth-eq0.false (c.depth.ensures ∙ z)) _ _ r.s_after
