-- `spatial::around::far::scan_far` meets its contract.
use mathlib.Core.Path.{◌∙◌}
use native.Mathlib.Omega.{arith}
use borrow.Author.Tests.{le-leb, lt-leb, lt-ltb}
use Rattle.spatial.specs.Code.Neighbour.{read_from}
use Rattle.spatial.specs.Code.Scan.{scanned}
use Rattle.stack.specs.Code.Numbers.{view_at}
use Rattle.spatial.specs.around.Around.{far_of}
use Rattle.spatial.proofs.around.Places.{far-room, far-fair}
use Rattle.spatial.proofs.around.Steps.{reaches, far-is}
use Rattle.spatial.proofs.around.far.scan_far.Goals.{then-n-reach-via-then-n-reach, then-n-reach-via-else-n-reach+then-depth-n}
use Rattle.spatial.proofs.around.far.scan_far.Goals as goal

pub returns-then-n-reach-clause-s_after : goal.returns-then-n-reach-clause-s_after
unfolding far_of scanned
returns-then-n-reach-clause-s_after c =
    elim c.then-n-reach.branch [
      | then-n-reach-via-then-n-reach w ↦ rw (le-leb _ _ w.if-n-reach.true)
      | then-n-reach-via-else-n-reach+then-depth-n w ↦ rw (lt-leb _ _ w.if-n-reach.false, ← w.depth.ensures, lt-ltb _ _ w.if-depth-n.true)
    ]

pub scan_line-r-requires : goal.scan_line-r-requires
scan_line-r-requires c =
    let a = c.args in (
      rw c.far_line.ensures (far-room a.b c.requires.0 a.down a.n),
      c.requires.1,
      rw c.far_span.ensures (far-fair (omega (arith, c.requires.2)) a.b c.requires.0 a.down a.n c.requires.3),
    )

pub returns-clause-s_after : goal.returns-clause-s_after
returns-clause-s_after c =
    let s = c.scan_line-r in
    let a = c.args in
    let r = s.ensures in
    reaches s.result _ a.reach
    ∙ far-is (read_from a.records) a.b a.down a.q (view_at a.s.now) r.s_after c.far_line.ensures c.far_span.ensures c.if-n-reach.false
    (omega (arith, c.if-depth-n.false, c.depth.ensures))
