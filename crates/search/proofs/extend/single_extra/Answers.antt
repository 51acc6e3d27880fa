-- `search::extend::single_extra` meets its contract.
use Rattle.search.proofs.Extends.{single-stops, single-ends}
use Rattle.search.proofs.extend.single_extra.Goals as goal

pub returns-then-above-ne0-clause-s_after : goal.returns-then-above-ne0-clause-s_after
returns-then-above-ne0-clause-s_after c =
    let r = c.single_where-above.ensures in
    single-stops _ _ _ _ _ _ _ r.s_after c.if-above-ne0.true

pub returns-clause-s_after : goal.returns-clause-s_after
returns-clause-s_after c =
    let r = c.single_where-above.ensures in
    let t = c.single_where.ensures in
    single-ends _ _ _ _ _ _ _ r.s_after c.if-above-ne0.false t.s_after
