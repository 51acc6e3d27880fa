-- `search::extend::compound_extra` meets its contract.
use Rattle.stack.specs.Code.Numbers.{found_at}
use Rattle.search.proofs.Extends.{compound-stops, compound-stops₂, compound-ends}
use Rattle.search.proofs.extend.compound_extra.Goals as goal

pub returns-then-above-ne0-clause-s_after : goal.returns-then-above-ne0-clause-s_after
returns-then-above-ne0-clause-s_after c =
    let f = c in
    let r = c.compound_where-above in
    compound-stops _ _ _ _ f.args.g (found_at f.args.s.now) c.no_pools.ensures r.result r.ensures c.if-above-ne0.true

pub returns-then-both-ne0-clause-s_after : goal.returns-then-both-ne0-clause-s_after
returns-then-both-ne0-clause-s_after c =
    let f = c in
    let r = c.compound_where-above in
    let t = c.compound_where-both in
    compound-stops₂ _ _ _ _ f.args.g (found_at f.args.s.now) c.no_pools.ensures r.result r.ensures c.if-above-ne0.false t.result t.ensures c.if-both-ne0.true

pub returns-clause-s_after : goal.returns-clause-s_after
returns-clause-s_after c =
    let a = c.args in
    let r = c.compound_where-above in
    let t = c.compound_where-both in
    let u = c.complete.ensures in
    compound-ends _ _ _ _ a.g (found_at a.s.now) c.no_pools.ensures r.result r.ensures c.if-above-ne0.false t.result t.ensures _ c.if-both-ne0.false c.pairs.ensures.0 c.pairs.ensures.1 u.2
