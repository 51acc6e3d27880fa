-- `search::lent_bytes::store::put_fills` meets its contract.
use mathlib.Core.Path.{refl}
use native.Mathlib.Omega.{arith}
use Rattle.ground.proofs.Spans.{start, more, stop}
use Rattle.search.specs.lent_bytes.Store.{fill_patch, fills_script}
use borrow.Author.Rules.{rules}
use Rattle.search.proofs.lent_bytes.Stored.{fill-laid}
use Rattle.search.proofs.lent_bytes.store.put_fills.Goals as goal

pub loop-i-init : goal.loop-i-init
loop-i-init c = let a = c.args in (omega arith, omega arith, refl, start (fill_patch a.fill) a.count _)

pub loop-i-preserved : goal.loop-i-preserved
loop-i-preserved c =
    let a = c.args in
    let l = c.loop-i in
    (omega arith, omega arith, search rules, more (fill_patch a.fill) a.count l.i l.invariant.0 _ l.invariant.3 (fill-laid a.fill l.i _ c.write.ensures))

pub returns : goal.returns
unfolding fills_script
returns c = let a = c.args in let l = c.loop-i in stop (fill_patch a.fill) a.count l.i 2 (omega arith) _ l.invariant.3
