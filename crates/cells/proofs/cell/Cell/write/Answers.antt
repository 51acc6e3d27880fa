-- `cells::cell::Cell::write` meets its contract.
use mathlib.Core.Path.{sym, ap, ap₂, ◌∙◌}
use mathlib.Core.List.{List}
use Prim.Native.Nat.{ℕ, ◌+◌, ◌*◌}
use lib.ListN.{set}
use mir.Syntax.{w8}
use borrow.Author.Rules.{rules}
use Rattle.ground.specs.Put.{put}
use Rattle.ground.specs.Twos.{bits8, byte_of}
use Rattle.ground.proofs.Bits.{same}
use Rattle.ground.proofs.Puts.{put-append}
use Rattle.vector.specs.Vector.{mv_bytes}
use Rattle.cells.proofs.cell.Cell.write.Goals as goal

pub returns : goal.returns
unfolding put
returns c =
    let s = c.args in
    let b = c.byte_bits.ensures ∙ ap bits8 (same w8 s.self.reference.0 (search rules)) in
    ap₂ (λ (l : List ℕ) (x : ℕ). set l (5 * s.i + 4) x) c.write.ensures b
    ∙ sym (put-append s.s.now (5 * s.i) (mv_bytes s.self.mv) (byte_of s.self.reference.0))
