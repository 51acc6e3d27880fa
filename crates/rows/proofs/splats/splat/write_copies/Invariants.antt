-- `rows::splats::splat::write_copies` meets its contract.
use mathlib.Core.Path.{◌≡◌}
use Prim.Native.Nat.{◌-◌, ◌*◌}
use Rattle.ground.specs.Put.{put, copies}
use Rattle.cells.specs.Block.{block_bytes}
use Rattle.rows.proofs.splats.splat.write_copies.Given as goal

abbrev pub invariant-loop-i : goal.invariant-loop-i
invariant-loop-i l = put l.records (12 * l.i) (copies (l.i-end - l.i) (block_bytes l.block)) ≡ put l.initial.records (12 * l.at) (copies l.w (block_bytes l.block))
