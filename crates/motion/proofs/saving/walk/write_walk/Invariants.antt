-- `motion::saving::walk::write_walk` meets its contract.
use mathlib.Core.Path.{◌≡◌}
use mathlib.Core.List.{List}
use Prim.Native.Nat.{ℕ, ◌+◌, ◌-◌, ◌*◌, ◌≤◌}
use lib.ListN.{length}
use Rattle.ground.specs.Put.{put}
use Rattle.frame.specs.declared.hints.distances.RefHint.{RefHint}
use Rattle.motion.specs.declared.saving.area.Strip.{Strip}
use Rattle.motion.specs.declared.saving.choose.Width.{Width}
use Rattle.motion.specs.saving.Save.{cells_wide, walk_read, walk_bytes}
use Rattle.motion.proofs.saving.walk.write_walk.Given as goal

-- at column x, with at most `left` blocks to go: the rest of the row passes, and laying it over the field gives what the whole call is to leave
pub record Going (recs : List ℕ) (total o : ℕ) (refs : List RefHint) (w : Strip) (k : ℕ) (field₀ field : List ℕ) (x : ℕ) (last : Width) : Type 0 where
  pub left : ℕ
  pub fuel : w.end.0 - x ≤ left
  pub ok : walk_read recs total o w.end.0 w.limit.0 left x ≡ 0
  pub laid : put field (5 * (k + x)) (walk_bytes recs refs o w.end.0 left x) ≡ put field₀ (5 * (k + w.left.0)) (walk_bytes recs refs o w.end.0 (w.end.0 - w.left.0) w.left.0)
  pub long : length field ≡ length field₀
  pub known : last.cells ≡ cells_wide last.code

abbrev pub invariant-loop-x : goal.invariant-loop-x
invariant-loop-x l = Going l.recs l.total l.o l.refs l.w l.first l.initial.field l.field l.x l.last

abbrev pub decreases-loop-x : goal.decreases-loop-x
decreases-loop-x l = l.w.end.0 - l.x
