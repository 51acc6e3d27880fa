-- The clamping of candidates (7.10.2.14): clamp_mv_row and clamp_mv_col, on every vector of the stack.
use Rattle.std.specs.Prelude.{map, pos, neg_ℤ}
use Rattle.ground.specs.Sign.{clip3}
use Rattle.vector.specs.declared.mv.Mv.{Mv}
use Rattle.cells.specs.Block.{MvPair}
use Rattle.stack.specs.declared.candidate.Candidate.{Candidate}
use Rattle.stack.specs.declared.clamp.Reach.{Reach}
use Rattle.stack.specs.Stack.{State, with_cands}

unfoldable pub clamped_mv : Reach → Mv → Mv
clamped_mv r v =
    record { y = clip3 (neg_ℤ (pos r.up)) (pos r.down) v.y; x = clip3 (neg_ℤ (pos r.left)) (pos r.right) v.x }

abbrev pub clamped_pair : Reach → MvPair → MvPair
clamped_pair r p = record { first = clamped_mv r p.first; second = clamped_mv r p.second }

abbrev pub clamped_one : Reach → Candidate → Candidate
clamped_one r c = record { mv = clamped_pair r c.mv; weight = c.weight }

unfoldable pub clamped : Reach → State → State
clamped r s = with_cands s (map (clamped_one r) s.cands)
