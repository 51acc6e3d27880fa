-- `jaskkovir::blocks::write_rows` meets its contract.
use Rattle.std.proofs.Common.{◌≡◌, ◌+◌, ◌-◌, ◌/◌, length}
use Rattle.ground.specs.Script.{run}
use Rattle.rows.specs.splats.Splat.{rows_read, row_patches}
use Rattle.layout.specs.TileBytes.{tile_at}
use Rattle.jaskkovir.proofs.blocks.write_rows.Given as goal

-- the rows that are left can be written, and writing them brings about what the splat is to leave
abbrev pub invariant-loop-e : goal.invariant-loop-e
invariant-loop-e l =
    (rows_read (tile_at l.tile).rows (length l.initial.records / 12) (l.b.x.0 + l.b.w.0) l.e (l.first + l.b.h.0 - l.e) ≡ 0)
    × (run (row_patches (tile_at l.tile).rows l.b.block l.b.x.0 l.b.w.0 l.e (l.first + l.b.h.0 - l.e)) l.records
    ≡ run (row_patches (tile_at l.tile).rows l.b.block l.b.x.0 l.b.w.0 l.first l.b.h.0) l.initial.records)
