-- `layout::tile_bytes::put_absent` meets its contract.
use mathlib.Core.Path.{◌≡◌}
use Prim.Native.Nat.{◌-◌, ◌*◌}
use Rattle.ground.specs.Put.{put, copies}
use Rattle.rows.specs.Table.{none}
use Rattle.layout.specs.TileBytes.{entry_bytes}
use Rattle.layout.proofs.tile_bytes.put_absent.Given as goal

abbrev pub invariant-loop-e : goal.invariant-loop-e
invariant-loop-e l = put l.s (4 * l.e) (copies (37 - l.e) (entry_bytes none)) ≡ put l.initial.s 0 (copies 37 (entry_bytes none))
