-- `cells::block::Block::write` meets its contract.
use mathlib.Core.Path.{ap, ◌∙◌}
use mathlib.Core.List.{List}
use Prim.Native.Nat.{ℕ, ◌+◌, ◌*◌}
use Rattle.ground.specs.Put.{put}
use Rattle.vector.specs.Vector.{mv_bytes}
use Rattle.cells.specs.Block.{tail_bytes}
use Rattle.cells.proofs.Blocks.{in_three}
use Rattle.cells.proofs.block.Block.write.Goals as goal

pub returns : goal.returns
returns c = let s = c.args in
    let at = 12 * s.i in
    c.write_tail.ensures
    ∙ ap (λ (l : List ℕ). put l (at + 8) (tail_bytes s.self.refs s.self.bs s.self.mf))
    (c.write-2.ensures ∙ ap (λ (l : List ℕ). put l (at + 4) (mv_bytes s.self.mv.second)) c.write.ensures)
    ∙ in_three s.s.now at s.self.mv.first s.self.mv.second (tail_bytes s.self.refs s.self.bs s.self.mf)
