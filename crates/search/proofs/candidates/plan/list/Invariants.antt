-- `search::candidates::plan::list` meets its contract: the first i records hold the first i candidates.
use mathlib.Core.Path.{◌≡◌}
use Prim.Native.Nat.{◌≤◌}
use lib.ListN.{take}
use Rattle.stack.specs.Code.Found.{live}
use Rattle.stack.specs.Code.Numbers.{found_at}
use Rattle.search.specs.candidates.Plan.{eight}
use Rattle.search.proofs.candidates.plan.list.Given as goal

abbrev pub invariant-loop-i : goal.invariant-loop-i
invariant-loop-i l = (l.i ≤ 8) × (l.l ≡ eight (take l.i (live (found_at l.s))))
