-- `cells::cell::Ref::place` meets its contract.
use mathlib.Core.Path.{◌≡◌, sym, ap, ◌∙◌}
use mathlib.Core.Bool.{true}
use native.Mathlib.Omega.{arith}
use Prim.Native.Nat.{◌≤◌}
use lib.IntN.{ℤ, pos}
use mir.Syntax.{w8}
use borrow.Author.Rules.{rules}
use Rattle.ground.specs.Sign.{from_to}
use Rattle.ground.proofs.Bits.{same}
use Rattle.ground.proofs.Signs.{From, from_is, from-to-most}
use Rattle.cells.proofs.cell.Ref.place.Goals as goal

most : (z : ℤ) → from_to (pos 1) (pos 7) z ≡ true → (f : From 1 z) → f.n ≤ 7
most z e f = from-to-most (pos 1) 7 f.n (ap (from_to (pos 1) (pos 7)) (sym f.is) ∙ e)

pub overflow_cast-result : goal.overflow_cast-result
overflow_cast-result c =
    let z = c.args.self.0 in
    let f = from_is 1 (pos 7) z c.requires in
    let m = most z c.requires f in
    rw (same w8 z (search rules), f.is) (tt, omega arith)

pub overflow_sub-result : goal.overflow_sub-result
overflow_sub-result c =
    let z = c.args.self.0 in
    let f = from_is 1 (pos 7) z c.requires in
    rw (same w8 z (search rules), f.is) f.low

pub returns : goal.returns
returns c =
    let z = c.args.self.0 in
    let f = from_is 1 (pos 7) z c.requires in
    let m = most z c.requires f in
    rw (same w8 z (search rules), f.is) (omega arith, omega arith)
