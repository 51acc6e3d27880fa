-- `search::extra::walk::compound_along` meets its contract.
use mathlib.Core.Path.{sym}
use native.Mathlib.Omega.{arith}
use Rattle.search.specs.Code.Pool.{pools_of}
use Rattle.search.specs.Code.Walk.{pooled}
use Rattle.spatial.specs.Code.Neighbour.{line_from}
use Rattle.search.proofs.extra.Walks.{some, known, strides, ends₂, refuses₂, goes₂}
use Rattle.search.proofs.extra.walk.compound_along.Goals as goal

pub returns-in-Refused : goal.returns-in-Refused
unfolding pooled
returns-in-Refused c =
    let l = c in
    let a = l.args in
    let e = c.neighbour_at.ensures in
    let is = c.in-Refused.is in
    rw (some a.records a.l l.loop-x.x e is)
    (sym (refuses₂ (line_from a.records a.l) a.l.down a.limit.0 a.wanted.biases.now a.wanted.refs _ l.loop-x.x (pools_of l.loop-x.t) _ c.loop-x-test.true e is l.loop-x.invariant))

pub gather-t-requires : goal.gather-t-requires
gather-t-requires c =
    let l = c in
    let a = l.args in
    (known a.records a.l l.loop-x.x c.neighbour_at.ensures c.in-Of.is).well

pub overflow_add-x : goal.overflow_add-x
overflow_add-x c =
    let l = c in
    let a = l.args in
    let far = strides a.records a.l l.loop-x.x c.neighbour_at.ensures a.l.down c.in-Of.is c.along-x.ensures in
    omega (arith, far, c.loop-x-test.true, l.requires.short)

pub loop-x-smaller : goal.loop-x-smaller
loop-x-smaller c =
    let l = c in
    let a = l.args in
    let far = strides a.records a.l l.loop-x.x c.neighbour_at.ensures a.l.down c.in-Of.is c.along-x.ensures in
    omega (arith, far, c.loop-x-test.true, l.requires.short)

pub loop-x-preserved : goal.loop-x-preserved
loop-x-preserved c =
    let l = c in
    let a = l.args in
    let far = strides a.records a.l l.loop-x.x c.neighbour_at.ensures a.l.down c.in-Of.is c.along-x.ensures in
    rw c.gather-t.ensures
    (goes₂ (line_from a.records a.l) a.l.down a.limit.0 a.wanted.biases.now a.wanted.refs _ l.loop-x.x (pools_of l.loop-x.t) _ c.loop-x-test.true c.neighbour_at.ensures c.in-Of.is c.along-x.ensures far.0 l.loop-x.invariant)

pub returns : goal.returns
unfolding pooled
returns c =
    let l = c in
    let a = l.args in
    sym (ends₂ (line_from a.records a.l) a.l.down a.limit.0 a.wanted.biases.now a.wanted.refs _ l.loop-x.x (pools_of l.loop-x.t) c.loop-x-test.false l.loop-x.invariant)
