-- `layout::tile_bytes::put_rows` meets its contract.
use mathlib.Core.Path.{sym, ◌∙◌}
use Prim.Native.Nat.{◌+◌, ◌*◌}
use Rattle.layout.specs.TileBytes.{place_number}
use Rattle.layout.proofs.Entries.{rows_on, rows-done}
use Rattle.layout.proofs.tile_bytes.put_rows.Goals as goal

pub loop-i-preserved : goal.loop-i-preserved
unfolding place_number
loop-i-preserved c =
    let l = c.loop-i in
    let a = c.args in
    rows_on l.s _ (λ j. a.first + j * a.stride) a.at l.i a.n c.loop-i-test.true c.put_entry.ensures ∙ l.invariant

pub returns : goal.returns
returns c = let l = c.loop-i in let a = c.args in sym (rows-done l.s (4 * (a.at + l.i)) (λ j. a.first + j * a.stride) l.i a.n c.loop-i-test.false) ∙ l.invariant
