-- `ground::write::put_sizes` meets its contract.
use mathlib.Core.Path.{◌≡◌}
use Prim.Native.Nat.{◌+◌, ◌*◌}
use lib.ListN.{drop}
use Rattle.ground.specs.Put.{put}
use Rattle.ground.specs.Little.{fours}
use Rattle.ground.proofs.write.put_sizes.Given as goal

abbrev pub invariant-loop-i : goal.invariant-loop-i
invariant-loop-i l = put l.s (l.at + 4 * l.i) (fours (drop l.i l.ns)) ≡ put l.initial.s l.at (fours l.ns)
