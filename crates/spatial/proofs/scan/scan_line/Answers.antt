-- `spatial::scan::scan_line` meets its contract.
use Rattle.stack.specs.Code.Numbers.{found_at}
use Rattle.layout.specs.TileBytes.{tile_at}
use Rattle.spatial.proofs.neighbours.Known.{told_line, is_known, is_some}
use Rattle.spatial.specs.Scan.{scan_of}
use Rattle.spatial.proofs.Scans.{sides, not_found}
use Rattle.spatial.proofs.scan.scan_line.Goals as goal

pub scan_from-requires : goal.scan_from-requires
scan_from-requires c =
    let f = c in
    let a = f.args in
    let k = is_known (told_line (tile_at a.records.tile.now).rows a.records.recs.now a.records.total a.l 0) c.neighbour_at.ensures c.in-Of.is in
    (f.requires.0, f.requires.1, f.requires.2, sides a.l.down _ k)

pub returns-in-Refused-clause-s_after : goal.returns-in-Refused-clause-s_after
unfolding scan_of
returns-in-Refused-clause-s_after c =
    let f = c in
    let a = f.args in
    let e = c.neighbour_at.ensures in
    let n = c.in-Refused.is in
    let s = is_some (told_line (tile_at a.records.tile.now).rows a.records.recs.now a.records.total a.l 0) e n in
    rw (← e, n) (not_found _ (found_at a.s.now) s)

pub returns-in-Of-clause-s_after : goal.returns-in-Of-clause-s_after
unfolding scan_of
returns-in-Of-clause-s_after c =
    let s = c.scan_from.ensures in
    rw (← c.neighbour_at.ensures, c.in-Of.is) s.s_after
