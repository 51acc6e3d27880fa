-- `spatial::scan::scan_from` meets its contract.
use Prim.Native.Nat.{◌≤◌}
use native.Mathlib.Omega.{arith}
use borrow.Author.Tests.{lt-ltb, le-ltb}
use Rattle.spatial.specs.Code.Scan.{scanned}
use Rattle.spatial.specs.Scan.{scan_from}
use Rattle.spatial.proofs.Scans.{most-le, weight-le, product_le}
use Rattle.spatial.proofs.scan.scan_from.Goals as goal

pub returns-then-n-p-clause-s_after : goal.returns-then-n-p-clause-s_after
unfolding scan_from
returns-then-n-p-clause-s_after c =
    let s = c.scan_on.ensures in
    let m = c in
    let t = m.add_spatial.ensures in
    let n = m.along-n.ensures in
    let h = m.max.ensures in
    let f = m.requires.2 in
    let k = most-le h (omega (arith, f.few)) (omega (arith, m.if-n-p.true, f.size)) in rw (← n, lt-ltb _ _ m.if-n-p.true, ← h, ← t.1) s.s_after

pub overflow_mul-len-2 : goal.overflow_mul-len-2
overflow_mul-len-2 c =
    let f = c in
    let m : c.max-len.result ≤ 32 = omega arith in
    omega (arith, product_le f.args.p c.across-across.result.0 f.requires.2.rows m c.weigh-weight.ensures)

pub add_spatial-requires-2 : goal.add_spatial-requires-2
add_spatial-requires-2 c =
    let f = c in
    let m : c.max-len.result ≤ 32 = omega arith in
    let n = product_le f.args.p c.across-across.result.0 f.requires.2.rows m c.weigh-weight.ensures in
    (f.requires.1, omega (arith, n, f.requires.2.light))

pub returns : goal.returns
unfolding scanned scan_from
returns c =
    let o = c in
    let f = o in
    let t = c.add_spatial-2.ensures in
    let w = c.weigh-weight.ensures in
    let m : c.max-len.result ≤ 32 = omega arith in
    let k : c.weigh-weight.result ≤ 6 = rw w (weight-le f.args.p o.across-across.result.0 f.requires.2.rows) in record { held = (t.0, omega (arith, t.2, product_le f.args.p o.across-across.result.0 f.requires.2.rows m w), omega (arith, k)); s_after = rw (← o.along-n.ensures, le-ltb _ _ o.if-n-p.false, ← o.across-across.ensures, ← w, ← c.max-len.ensures, ← t.1) }
