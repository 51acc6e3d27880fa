-- `motion::saving::walk::write_walk` meets its contract.
use mathlib.Core.Path.{◌≡◌, sym, ap, ◌∙◌}
use native.Mathlib.Omega.{arith}
use Prim.Native.Nat.{ℕ, ◌+◌, ◌-◌}
use lib.ListN.{get_or}
use Rattle.cells.specs.declared.block.Block.{Block}
use Rattle.frame.specs.declared.hints.distances.RefHint.{RefHint}
use Rattle.frame.specs.Record.{no_hint}
use Rattle.motion.specs.saving.Save.{chosen, cells_wide, block_on, wide_on, walk_read}
use Rattle.motion.proofs.saving.Walks.{Passed, record-fits, chosen_by_lem, first, row-none, row-turn}
use Rattle.motion.proofs.saving.walk.write_walk.Goals as goal
use Rattle.motion.proofs.saving.walk.write_walk.Goals.{After-choose, After-width_after-last, In-loop-x}

pass : (c : In-loop-x) →
    let l = c.loop-x in
    let a = c.args in
    Passed a.recs.now a.total a.o a.w.limit.0 l.x × (walk_read a.recs.now a.total a.o a.w.end.0 a.w.limit.0 (l.invariant.left - 1) (l.x + wide_on a.recs.now a.o l.x) ≡ 0)
pass c = let l = c.loop-x in first _ _ _ _ _ _ _ l.invariant.fuel c.loop-x-test.true l.invariant.ok

wide : (c : After-width_after-last) →
    let l = c.loop-x in
    let a = c.args in
    c.width_after-last.result.cells ≡ wide_on a.recs.now a.o l.x
wide c = c.width_after-last.ensures.1 ∙ ap (λ (b : Block). cells_wide b.bs) c.block_of-b.ensures

picked : (c : After-choose) →
    let l = c.loop-x in
    let a = c.args in
    c.choose.result ≡ chosen a.refs (block_on a.recs.now a.o l.x)
picked c =
    let refs = c.args.refs in
    let hint : ℕ → RefHint = λ n. get_or refs n no_hint in
    let b = c.block_of-b in
    c.choose.ensures ∙ chosen_by_lem refs b.result (ap hint c.hint_place.ensures.0) (ap hint c.hint_place-in-loop-x.ensures.0)
    ∙ ap (chosen refs) b.ensures

pub block_of-b-requires : goal.block_of-b-requires
block_of-b-requires c = let p = c.requires.end_le_limit in let t = c.loop-x-test.true in (omega arith, record-fits _ _ _ (pass c).0.there p.2)

pub fill_cells-requires : goal.fill_cells-requires
fill_cells-requires c = let p = c.requires.end_le_limit in let q = (pass (goal.at.fill_cells-requires c).In-loop-x).0.fits in let e = wide (goal.at.fill_cells-requires c).After-width_after-last in let i = c.loop-x.invariant in omega (arith, i.long)

pub loop-x-preserved : goal.loop-x-preserved
loop-x-preserved c =
    let i = c.loop-x.invariant in
    let p = pass (goal.at.loop-x-preserved c).In-loop-x in
    let e = wide (goal.at.loop-x-preserved c).After-width_after-last in
    let m = c.width_after-last.ensures in
    let f = c.fill_cells in
    record { left = i.left - 1; fuel = omega (arith, i.fuel); ok = rw e p.1; laid = row-turn _ c.args.refs _ _ _ _ _ _ i.fuel c.loop-x-test.true e (picked (goal.at.loop-x-preserved c).After-choose) f.ensures ∙ i.laid; long = f.auto.field ∙ i.long; known = m.1 ∙ ap cells_wide (sym m.0) }

pub returns : goal.returns
returns c = sym (row-none _ c.args.refs _ _ _ _ _ _ c.loop-x-test.false) ∙ c.loop-x.invariant.laid
