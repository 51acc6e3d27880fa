-- `spatial::scan::scan_on` meets its contract.
use mathlib.Core.Path.{refl, sym, ◌∙◌}
use native.Mathlib.Omega.{arith}
use Rattle.stack.specs.Code.Numbers.{found_at}
use Rattle.layout.specs.TileBytes.{tile_at}
use Rattle.spatial.proofs.neighbours.Known.{told_line}
use Rattle.spatial.specs.Code.Scan.{scanned}
use Rattle.spatial.proofs.Scans.{len-fits, some-refusal, starts, ends, refuses, goes, not_found}
use Rattle.spatial.proofs.scan.scan_on.Goals as goal

pub loop-x-init : goal.loop-x-init
loop-x-init c =
    let s = c in
    let a = s.args in
    (s.requires.1, omega arith, s.requires.4, starts (told_line (tile_at a.records.tile.now).rows a.records.recs.now a.records.total a.l) refl)

pub returns-in-Refused-clause-s_after : goal.returns-in-Refused-clause-s_after
returns-in-Refused-clause-s_after c =
    let m = c in
    let l = m in
    let i = l.loop-x.invariant in
    let f = l.requires.2 in
    let e = m.next_at.ensures in
    let g = c.in-Refused.is in not_found _ (found_at l.loop-x.s) (some-refusal i.3 f e g) ∙ sym (refuses i.3 f e m.loop-x-test.true g)

pub overflow_mul-len : goal.overflow_mul-len
overflow_mul-len c =
    let m = c in
    let l = m in
    omega (arith, len-fits l.loop-x.invariant.3 l.requires.2 m.next_at.ensures c.in-Take.is)

pub add_spatial-requires : goal.add_spatial-requires
add_spatial-requires c =
    let m = c in
    let l = m in
    let i = l.loop-x.invariant in
    let n = len-fits i.3 l.requires.2 m.next_at.ensures c.in-Take.is in
    (i.0, omega (arith, n, i.1, i.2, l.requires.3))

pub overflow_add-x : goal.overflow_add-x
overflow_add-x c =
    let m = c in
    let l = m in
    omega (arith, len-fits l.loop-x.invariant.3 l.requires.2 m.next_at.ensures c.in-Take.is)

pub loop-x-smaller : goal.loop-x-smaller
loop-x-smaller c =
    let m = c in
    let l = m in
    omega (arith, len-fits l.loop-x.invariant.3 l.requires.2 m.next_at.ensures c.in-Take.is)

pub loop-x-preserved : goal.loop-x-preserved
loop-x-preserved c =
    let m = c in
    let l = m in
    let i = l.loop-x.invariant in
    let f = l.requires.2 in
    let e = m.next_at.ensures in
    let g = c.in-Take.is in
    let t = c.add_spatial.ensures in
    (t.0, omega (arith, t.2, i.1), omega (arith, len-fits i.3 f e g), rw t.1 (goes i.3 f e m.loop-x-test.true g))

pub returns-clause-s_after : goal.returns-clause-s_after
unfolding scanned
returns-clause-s_after c =
    let i = c.loop-x.invariant in
    sym (ends i.3 c.loop-x-test.false)
