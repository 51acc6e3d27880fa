-- `spatial::around::far::round` meets its contract.
use native.Mathlib.Omega.{arith}
use Rattle.spatial.specs.Code.Neighbour.{read_from}
use Rattle.stack.specs.Code.Numbers.{found_at, heft_at}
use Rattle.spatial.proofs.around.Steps.{two-more}
use Rattle.spatial.proofs.around.Chains.{round-not, round-row-not, round-ends}
use Rattle.spatial.proofs.around.far.round.Goals as goal

pub returns-then-a-ne0-clause-s_after : goal.returns-then-a-ne0-clause-s_after
returns-then-a-ne0-clause-s_after c =
    let f = c in
    let a = f.args in round-not (read_from a.records) a.b a.n a.q a.a (found_at a.s.now) c.if-a-ne0.true

pub returns-then-row-ne0 : goal.returns-then-row-ne0
returns-then-row-ne0 c =
    let r = c.scan_far-row in
    let a = c.args in
    rw c.around_by.ensures (record { held = (r.ensures.held.0, omega (arith, r.ensures.held.1), omega arith, omega arith); s_after = round-row-not (read_from a.records) a.b a.n a.q a.a (found_at a.s.now) c.if-a-ne0.false r.result _ r.ensures.s_after c.if-row-ne0.true })

pub returns : goal.returns
returns c =
    let s = c.scan_far-column in
    let y = c in
    let r = y.scan_far-row in
    let a = y.args in
    rw c.around_by-2.ensures (record { held = (s.ensures.held.0, two-more (heft_at a.s.now) r.ensures.held.1 s.ensures.held.1, r.ensures.held.2, s.ensures.held.2); s_after = round-ends (read_from a.records) a.b a.n a.q a.a (found_at a.s.now) y.if-a-ne0.false r.result _ r.ensures.s_after c.if-row-ne0.false s.result _ s.ensures.s_after })
