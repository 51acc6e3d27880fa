-- `vector::mv::Mv::write` meets its contract.
use mathlib.Core.Path.{sym, ap, ap₂, ◌∙◌}
use mathlib.Core.List.{List}
use Prim.Native.Nat.{ℕ, ◌+◌}
use lib.IntN.{ℤ}
use mir.Syntax.{w16}
use borrow.Author.Rules.{rules}
use Rattle.ground.specs.Put.{put}
use Rattle.ground.specs.Twos.{half_of}
use Rattle.ground.proofs.Puts.{put-append}
use Rattle.ground.proofs.Bits.{same}
use Rattle.vector.proofs.mv.Mv.write.Goals as goal

pub returns : goal.returns
returns c =
    let a = c.args in
    let y = same w16 a.self.y (search rules) in
    let x = same w16 a.self.x (search rules) in
    c.write_half-2.ensures
    ∙ ap₂ (λ (l : List ℕ) (z : ℤ). put l (a.at + 2) (half_of z)) (c.write_half.ensures ∙ ap (λ (z : ℤ). put a.s.now a.at (half_of z)) y) x
    ∙ sym (put-append a.s.now a.at (half_of a.self.y) (half_of a.self.x))
