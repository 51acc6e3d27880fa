-- `spatial::around::far::far` meets its contract.
use Rattle.spatial.specs.Code.Neighbour.{read_from}
use Rattle.stack.specs.Code.Numbers.{found_at, view_at}
use Rattle.spatial.proofs.around.Chains.{far-ends}
use Rattle.spatial.proofs.around.far.far.Goals as goal

pub returns-clause-s_after : goal.returns-clause-s_after
returns-clause-s_after c =
    let e = c.round in
    let d = c.round-two in
    let m = c in
    let r = m.point_where-corner in
    let a = m.args in far-ends (read_from a.records) a.b a.above a.left a.q (view_at a.s.now) r.result d.result e.result
    (found_at r.new.s) (found_at d.new.s) _
    (rw (← m.has_left.ensures, ← m.saturating_sub.ensures) r.ensures.s_after)
    (rw (← m.around_by-one.ensures) d.ensures.s_after)
    e.ensures.s_after
