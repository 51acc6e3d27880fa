-- `jaskkovir::blocks::read_rows` meets its contract.
use Rattle.std.proofs.Common.{◌≡◌, ◌+◌, ◌-◌}
use Rattle.rows.specs.splats.Splat.{rows_read}
use Rattle.layout.specs.TileBytes.{tile_at}
use Rattle.jaskkovir.proofs.blocks.read_rows.Given as goal

abbrev pub invariant-loop-e : goal.invariant-loop-e
invariant-loop-e l =
    rows_read (tile_at l.tile).rows l.total l.reach l.e (l.first + l.n - l.e) ≡ rows_read (tile_at l.tile).rows l.total l.reach l.first l.n
