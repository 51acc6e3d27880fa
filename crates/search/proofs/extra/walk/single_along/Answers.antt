-- `search::extra::walk::single_along` meets its contract.
use mathlib.Core.Path.{sym}
use Prim.Native.Nat.{◌<◌}
use native.Mathlib.Omega.{arith}
use lib.ListN.{length}
use Rattle.stack.specs.Code.Numbers.{view_at}
use Rattle.stack.specs.Code.Found.{outcome}
use Rattle.stack.proofs.Adds.{how-many}
use Rattle.spatial.specs.Code.Neighbour.{line_from}
use Rattle.search.proofs.extra.Walks.{some, known, strides, ends, enough, refuses, goes}
use Rattle.search.proofs.extra.walk.single_along.Goals as goal

pub returns-then-count_in-ge2-clause-s_after : goal.returns-then-count_in-ge2-clause-s_after
unfolding outcome
returns-then-count_in-ge2-clause-s_after c =
    let l = c in
    let a = l.args in
    let n = how-many l.loop-x.s l.loop-x.invariant.0 in
    sym (enough (line_from a.records a.l) a.l.down a.limit.0 a.wanted.biases.now a.wanted.reference _ l.loop-x.x (view_at l.loop-x.s) c.loop-x-test.true (omega (arith, n, c.count_in.ensures, c.if-count_in-ge2.true)) l.loop-x.invariant.2)

pub returns-in-Refused-clause-s_after : goal.returns-in-Refused-clause-s_after
unfolding outcome
returns-in-Refused-clause-s_after c =
    let l = c in
    let a = l.args in
    let n = how-many l.loop-x.s l.loop-x.invariant.0 in
    let e = c.neighbour_at.ensures in
    let is = c.in-Refused.is in
    let few : length (view_at l.loop-x.s).cands < 2 = omega (arith, n, c.count_in.ensures, c.if-count_in-ge2.false) in rw (some a.records a.l l.loop-x.x e is)
    (sym (refuses (line_from a.records a.l) a.l.down a.limit.0 a.wanted.biases.now a.wanted.reference _ l.loop-x.x (view_at l.loop-x.s) _ c.loop-x-test.true few e is l.loop-x.invariant.2))

pub extend-requires : goal.extend-requires
extend-requires c =
    let l = c in
    let a = l.args in
    let k = known a.records a.l l.loop-x.x c.neighbour_at.ensures c.in-Of.is in
    (k.well, l.loop-x.invariant.0, omega (arith, c.count_in.ensures, c.if-count_in-ge2.false))

pub overflow_add-x : goal.overflow_add-x
overflow_add-x c =
    let l = c in
    let a = l.args in
    let far = strides a.records a.l l.loop-x.x c.neighbour_at.ensures a.l.down c.in-Of.is c.along-x.ensures in
    omega (arith, far, c.loop-x-test.true, l.requires.0.short)

pub loop-x-smaller : goal.loop-x-smaller
loop-x-smaller c =
    let l = c in
    let a = l.args in
    let far = strides a.records a.l l.loop-x.x c.neighbour_at.ensures a.l.down c.in-Of.is c.along-x.ensures in
    omega (arith, far, c.loop-x-test.true, l.requires.0.short)

pub loop-x-preserved : goal.loop-x-preserved
loop-x-preserved c =
    let l = c in
    let a = l.args in
    let far = strides a.records a.l l.loop-x.x c.neighbour_at.ensures a.l.down c.in-Of.is c.along-x.ensures in
    let n = how-many l.loop-x.s l.loop-x.invariant.0 in
    let few : length (view_at l.loop-x.s).cands < 2 = omega (arith, n, c.count_in.ensures, c.if-count_in-ge2.false) in
    let t = c.extend.ensures in (
      t.0,
      t.1,
      rw t.2
          (goes (line_from a.records a.l) a.l.down a.limit.0 a.wanted.biases.now a.wanted.reference _ l.loop-x.x (view_at l.loop-x.s) _ c.loop-x-test.true few c.neighbour_at.ensures c.in-Of.is c.along-x.ensures far.0 l.loop-x.invariant.2),
    )

pub returns-clause-s_after : goal.returns-clause-s_after
unfolding outcome
returns-clause-s_after c =
    let l = c in
    let a = l.args in
    sym (ends (line_from a.records a.l) a.l.down a.limit.0 a.wanted.biases.now a.wanted.reference _ l.loop-x.x (view_at l.loop-x.s) c.loop-x-test.false l.loop-x.invariant.2)
