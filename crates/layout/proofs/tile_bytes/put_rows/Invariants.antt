-- `layout::tile_bytes::put_rows` meets its contract.
use mathlib.Core.Path.{◌≡◌}
use Prim.Native.Nat.{◌+◌, ◌-◌, ◌*◌}
use Rattle.ground.specs.Put.{put}
use Rattle.ground.specs.Little.{fours}
use Rattle.ground.specs.Tab.{tab}
use Rattle.layout.proofs.tile_bytes.put_rows.Given as goal

abbrev pub invariant-loop-i : goal.invariant-loop-i
invariant-loop-i l = put l.s (4 * (l.at + l.i)) (fours (tab (λ j. l.first + j * l.stride) l.i (l.n - l.i))) ≡ put l.initial.s (4 * l.at) (fours (tab (λ j. l.first + j * l.stride) 0 l.n))
