-- `spatial::scan::point` meets its contract.
use Rattle.stack.specs.Code.Numbers.{found_at}
use Rattle.layout.specs.TileBytes.{tile_at}
use Rattle.spatial.proofs.neighbours.Known.{told, is_some}
use Rattle.spatial.specs.Code.Scan.{scanned}
use Rattle.spatial.specs.Scan.{point_of}
use Rattle.spatial.proofs.Scans.{not_found}
use Rattle.spatial.proofs.scan.point.Goals as goal

pub returns-in-Refused-clause-s_after : goal.returns-in-Refused-clause-s_after
unfolding point_of
returns-in-Refused-clause-s_after c =
    let f = c in
    let a = f.args in
    let e = c.read_at.ensures in
    let n = c.in-Refused.is in
    let s = is_some (told (tile_at a.records.tile.now).rows a.records.recs.now a.records.total a.e a.col.0) e n in
    rw (← e, n) (not_found _ (found_at a.s.now) s)

pub returns-in-Of-clause-s_after : goal.returns-in-Of-clause-s_after
unfolding point_of scanned
returns-in-Of-clause-s_after c =
    let t = c.add_spatial.ensures in
    rw (← c.read_at.ensures, c.in-Of.is, t.1)
