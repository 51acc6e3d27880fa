-- `layout::tile_bytes::put_tile` meets its contract.
use native.Mathlib.Omega.{arith}
use Rattle.frame.proofs.extent.Sizing.{fits, stride-small}
use Rattle.rows.proofs.Parts.{rows_fit}
use Rattle.layout.proofs.Read.{sizes-accepted}
use Rattle.layout.proofs.Entries.{tile-laid}
use Rattle.layout.proofs.tile_bytes.put_tile.Goals as goal

pub part_start-requires : goal.part_start-requires
part_start-requires c = let s = c in sizes-accepted s.args.frame.now s.args.r c.sizes_at-z.ensures s.requires.2

pub doubled-requires : goal.doubled-requires
doubled-requires c =
    let s = c in
    let z = c.sizes_at-z in
    stride-small z.result (sizes-accepted s.args.frame.now s.args.r z.ensures s.requires.2).0

pub put_table-requires : goal.put_table-requires
put_table-requires c =
    let s = c in
    let z = c.sizes_at-z in
    let a = sizes-accepted s.args.frame.now s.args.r z.ensures s.requires.2 in
    rw c.doubled.ensures
    (omega arith, (fits z.result a.0).superblock, omega (arith, c.part_start.ensures, rows_fit z.result s.args.r.tile s.args.r.pass a.0 a.1))

pub proj_start-requires : goal.proj_start-requires
proj_start-requires c = let s = c in sizes-accepted s.args.frame.now s.args.r c.sizes_at-z.ensures s.requires.2

pub put_bounds-requires : goal.put_bounds-requires
put_bounds-requires c = omega (arith, c.put_table.auto.s, c.requires.0)

pub returns : goal.returns
returns c =
    let a = c.args in
    tile-laid a.s.now a.frame.now a.r c.sizes_at-z.ensures c.doubled.ensures c.part_start.ensures c.put_table.ensures c.proj_start.ensures c.cut_to.ensures c.cut_to-2.ensures c.put_bounds.ensures
