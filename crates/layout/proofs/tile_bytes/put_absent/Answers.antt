-- `layout::tile_bytes::put_absent` meets its contract.
use mathlib.Core.Path.{◌≡◌, sym, ◌∙◌}
use Prim.Native.Nat.{◌+◌, ◌-◌, ◌*◌}
use native.Mathlib.Omega.{arith}
use Rattle.ground.proofs.Puts.{copies-on, copies-done}
use Rattle.rows.specs.Table.{none}
use Rattle.layout.specs.TileBytes.{entry_bytes}
use Rattle.layout.proofs.tile_bytes.put_absent.Goals as goal

pub loop-e-preserved : goal.loop-e-preserved
loop-e-preserved c =
    let l = c.loop-e in
    let k : 37 - (l.e + 1) ≡ 37 - l.e - 1 = omega arith in
    rw k (copies-on l.s (entry_bytes none) (4 * l.e) (4 * (l.e + 1)) (37 - l.e) (omega arith) (omega arith) c.put_entry.ensures ∙ l.invariant)

pub returns : goal.returns
returns c = let l = c.loop-e in sym (copies-done l.s (entry_bytes none) (4 * l.e) (37 - l.e) (omega arith)) ∙ l.invariant
