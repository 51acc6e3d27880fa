-- `cells::block::write_tail` meets its contract.
use mathlib.Core.Path.{ap, ◌∙◌}
use native.Mathlib.Numerals.{add-one, add-two, add-three}
use mir.Syntax.{w8}
use borrow.Author.Rules.{rules}
use Rattle.ground.specs.Put.{put}
use Rattle.ground.specs.Twos.{bits8}
use Rattle.ground.proofs.Bits.{same}
use Rattle.cells.proofs.block.write_tail.Goals as goal

pub returns : goal.returns
unfolding put
returns c =
    let r = c.args.refs in
    let a = c.byte_bits.ensures ∙ ap bits8 (same w8 r.first.0 (search rules)) in
    let b = c.byte_bits-2.ensures ∙ ap bits8 (same w8 r.second.0 (search rules)) in
    rw (a, b, add-one, add-two, add-three)
