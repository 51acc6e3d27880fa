-- `spatial::around::near::scan_near` meets its contract.
use mathlib.Core.Path.{◌∙◌}
use native.Mathlib.Omega.{arith}
use borrow.Author.Tests.{eq-eqb}
use Rattle.spatial.specs.Code.Neighbour.{read_from}
use Rattle.spatial.specs.Code.Scan.{scanned}
use Rattle.stack.specs.Code.Numbers.{view_at}
use Rattle.spatial.specs.around.Around.{near_of}
use Rattle.spatial.proofs.around.Places.{near-room, near-fair}
use Rattle.spatial.proofs.around.Steps.{near-is}
use Rattle.spatial.proofs.around.near.scan_near.Goals as goal

pub returns-then-depth-eq0-clause-s_after : goal.returns-then-depth-eq0-clause-s_after
unfolding near_of scanned
returns-then-depth-eq0-clause-s_after c = rw (← c.depth.ensures, eq-eqb _ _ c.if-depth-eq0.true)

pub scan_line-requires : goal.scan_line-requires
scan_line-requires c =
    let f = c in
    let a = f.args in (
      rw c.near_line.ensures (near-room a.b f.requires.0 a.down),
      f.requires.1,
      rw c.near_span.ensures (near-fair (omega (arith, f.requires.2.light)) a.b f.requires.0 a.down),
    )

pub returns-clause-s_after : goal.returns-clause-s_after
returns-clause-s_after c =
    let r = c.scan_line.ensures in
    let m = c in
    let a = m.args in near-is (read_from a.records) a.b a.down a.q (view_at a.s.now) r.s_after m.near_line.ensures m.near_span.ensures
    (λ z. m.if-depth-eq0.false (m.depth.ensures ∙ z))
