-- `ground::write::put_sizes` meets its contract.
use mathlib.Core.Path.{sym, ◌∙◌}
use Prim.Native.Nat.{◌+◌, ◌*◌}
use Rattle.ground.proofs.Littles.{fours-on, fours-done}
use Rattle.ground.proofs.write.put_sizes.Goals as goal

pub loop-i-preserved : goal.loop-i-preserved
loop-i-preserved c = let l = c.loop-i in let a = c.args in fours-on l.s _ a.at l.i a.ns.now c.loop-i-test.true c.put_size.ensures ∙ l.invariant

pub returns : goal.returns
returns c = let l = c.loop-i in let a = c.args in sym (fours-done l.s (a.at + 4 * l.i) l.i a.ns.now c.loop-i-test.false l.auto.i-end) ∙ l.invariant
