-- `motion::saving::walk::fill_cells` meets its contract.
use Prim.Native.Nat.{◌+◌, ◌-◌, ◌*◌}
use Rattle.ground.specs.Put.{put, copies}
use Rattle.cells.specs.Cell.{cell_bytes}
use mathlib.Core.Path.{◌≡◌}
use Rattle.motion.proofs.saving.walk.fill_cells.Given as goal

abbrev pub invariant-loop-i : goal.invariant-loop-i
invariant-loop-i l = put l.field (5 * l.i) (copies (l.at + l.n - l.i) (cell_bytes l.c)) ≡ put l.initial.field (5 * l.at) (copies l.n (cell_bytes l.c))
