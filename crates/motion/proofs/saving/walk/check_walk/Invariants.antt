-- `motion::saving::walk::check_walk` meets its contract.
use mathlib.Core.Path.{◌≡◌}
use Prim.Native.Nat.{ℕ, ◌-◌, ◌≤◌}
use Rattle.motion.specs.saving.Save.{cells_wide, walk_read}
use Rattle.motion.proofs.saving.walk.check_walk.Given as goal

abbrev pub invariant-loop-x : goal.invariant-loop-x
invariant-loop-x l =
    (k : ℕ) × (l.w.end.0 - l.x ≤ k) × (l.last.cells ≡ cells_wide l.last.code)
    × (walk_read l.recs l.total l.o l.w.end.0 l.w.limit.0 k l.x ≡ walk_read l.recs l.total l.o l.w.end.0 l.w.limit.0 (l.w.end.0 - l.w.left.0) l.w.left.0)

abbrev pub decreases-loop-x : goal.decreases-loop-x
decreases-loop-x l = l.w.end.0 - l.x
