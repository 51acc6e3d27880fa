-- `spatial::take::add_spatial` meets its contract.
use mathlib.Core.Path.{◌∙◌}
use native.Mathlib.Omega.{arith}
use Rattle.stack.specs.Code.Numbers.{view_at}
use Rattle.spatial.proofs.Notes.{notes, none, some}
use borrow.Author.Rules.{rules}
use Rattle.spatial.proofs.take.add_spatial.Goals as goal

pub returns-in_default : goal.returns-in_default
returns-in_default c =
    let a = c.args in
    (c.requires.0, none a.down a.w a.k a.q (view_at a.s.now) c.offered.ensures c.in_default.is, omega arith)

pub returns-in-Some : goal.returns-in-Some
returns-in-Some c =
    let side = c.note_side in
    let t = c.add in
    let a = c.args in
    let n = notes a.down a.k.mf t.new.s c.note_mode.new.s side.new.s t.ensures.0 c.note_mode.ensures side.ensures (search rules) in (
      n.0,
      n.1 ∙ rw t.ensures.1 (some a.down a.w a.k a.q (view_at a.s.now) c.offered.ensures c.in-Some.is),
      omega (arith, n.2, t.ensures.2),
    )
