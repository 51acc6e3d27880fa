-- A neighbour's lists: which there are, and how long their vectors.
-- Assumes nothing.
use mathlib.Core.Path.{◌≡◌, sym, ap, ◌∙◌}
use mathlib.Core.Bool.{true, not}
use Rattle.ground.proofs.Picks.{or_off}
use Rattle.vector.specs.declared.mv.Mv.{Mv}
use Rattle.vector.specs.Vector.{Within}
use Rattle.vector.proofs.Vectors.{within-is}
use Rattle.cells.specs.declared.cell.Ref.{Ref}
use Rattle.cells.specs.declared.block.Block.{Block}
use Rattle.cells.specs.Block.{bound_to, well_block}
use Rattle.cells.proofs.Blocks.{well-is}
use Rattle.cells.specs.Cell.{is_ref}

bound : (v : Mv) (r : Ref) → bound_to v r ≡ true → is_ref r ≡ true → Within 16383 v
unfolding bound_to is_ref
bound v r t e = (within-is 16383 v).1 (sym (or_off (ap not e)) ∙ t)

-- the vectors of a well formed block are within ±16,383 where their references are
module _ (k : Block) (w : well_block k ≡ true) where
  pub near_first : is_ref k.refs.first ≡ true → Within 16383 k.mv.first
  near_first e = bound k.mv.first k.refs.first (well-is k w).first e

  pub near-second : is_ref k.refs.second ≡ true → Within 16383 k.mv.second
  near-second e = bound k.mv.second k.refs.second (well-is k w).second e
