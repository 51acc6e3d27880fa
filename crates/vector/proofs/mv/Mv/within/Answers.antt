-- `vector::mv::Mv::within` meets its contract.
use mathlib.Core.Path.{ap, ◌∙◌}
use lib.Dec.{leb}
use lib.IntN.{ℤ, nat_abs}
use mir.Syntax.{w16}
use borrow.Author.Rules.{rules}
use Rattle.ground.proofs.Bits.{same}
use Rattle.vector.specs.Vector.{within}
use Rattle.vector.proofs.mv.Mv.within.Goals as goal

pub returns-then-is_short : goal.returns-then-is_short
unfolding within
returns-then-is_short c =
    let a = c.args in
    let short = λ (z : ℤ). leb (nat_abs z) a.most in
    let y = c.is_short.ensures ∙ ap short (same w16 a.self.y (search rules)) in
    let x = c.is_short-then-is_short.ensures ∙ ap short (same w16 a.self.x (search rules)) in
    rw (← y, c.if-is_short.true, ← x)

pub returns-else-is_short : goal.returns-else-is_short
unfolding within
returns-else-is_short c =
    let a = c.args in
    let y = c.is_short.ensures ∙ ap (λ (z : ℤ). leb (nat_abs z) a.most) (same w16 a.self.y (search rules)) in
    rw (← y, c.if-is_short.false)
