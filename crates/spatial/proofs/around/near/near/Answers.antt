-- `spatial::around::near::near` meets its contract.
use native.Mathlib.Nat.{le_trans}
use lib.Dec.{lit≤}
use Rattle.spatial.specs.Code.Neighbour.{read_from}
use Rattle.spatial.proofs.around.Steps.{no-heft, more, light}
use Rattle.spatial.proofs.around.Chains.{near-row-not, near-column-not, near-ends}
use Rattle.spatial.proofs.around.near.near.Goals as goal

pub scan_near-row-requires : goal.scan_near-row-requires
scan_near-row-requires c =
    let p = c.requires in
    let o = c.clear.ensures in
    (p.0, o.0, light 0 (no-heft _ o.1) (lit≤ tt))

pub returns-then-row-ne0 : goal.returns-then-row-ne0
returns-then-row-ne0 c =
    let r = c.scan_near-row in
    let z = c in
    let o = z.clear.ensures in
    let a = z.args in
    let w = more 0 512 (no-heft _ o.1) r.ensures.held.1 in
    rw c.around_by.ensures (record { held = (r.ensures.held.0, le_trans w (lit≤ tt), lit≤ tt, lit≤ tt); s_after = near-row-not (read_from a.records) a.b a.decoded a.q o.2 r.result _ r.ensures.s_after c.if-row-ne0.true })

pub scan_near-column-requires : goal.scan_near-column-requires
scan_near-column-requires c =
    let p = c.requires in
    let r = c.scan_near-row.ensures.held in
    let w = more 0 512 (no-heft _ c.clear.ensures.1) r.1 in
    (p.0, r.0, light 512 w (lit≤ tt))

pub returns-then-column-ne0 : goal.returns-then-column-ne0
returns-then-column-ne0 c =
    let s = c.scan_near-column in
    let y = c in
    let r = y.scan_near-row in
    let z = y in
    let o = z.clear.ensures in
    let a = z.args in
    let w = more 512 512 (more 0 512 (no-heft _ o.1) r.ensures.held.1) s.ensures.held.1 in
    rw c.around_by-then-column-ne0.ensures (record { held = (s.ensures.held.0, le_trans w (lit≤ tt), lit≤ tt, lit≤ tt); s_after = near-column-not (read_from a.records) a.b a.decoded a.q o.2 r.result _ r.ensures.s_after c.if-row-ne0.false s.result _ s.ensures.s_after c.if-column-ne0.true })

pub point_where-right-requires : goal.point_where-right-requires
point_where-right-requires c =
    let s = c.scan_near-column.ensures.held in
    let y = c in
    let z = y in
    let w = more 512 512 (more 0 512 (no-heft _ z.clear.ensures.1) y.scan_near-row.ensures.held.1) s.1 in
    (s.0, light 1024 w (lit≤ tt))

pub returns : goal.returns
returns c =
    let t = c.point_where-right in
    let x = c in
    let s = x.scan_near-column in
    let y = x in
    let r = y.scan_near-row in
    let z = y in
    let o = z.clear.ensures in
    let a = z.args in
    let w = more 512 512 (more 0 512 (no-heft _ o.1) r.ensures.held.1) s.ensures.held.1 in
    rw c.around_by-2.ensures (record { held = (t.ensures.held.0, more 1024 4 w t.ensures.held.1, r.ensures.held.2, s.ensures.held.2); s_after = near-ends (read_from a.records) a.b a.decoded a.q o.2 r.result _ r.ensures.s_after x.if-row-ne0.false s.result _ s.ensures.s_after c.if-column-ne0.false t.result _ (rw (← c.has_right.ensures) t.ensures.s_after) })
