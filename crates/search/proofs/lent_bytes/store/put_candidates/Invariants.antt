-- `search::lent_bytes::store::put_candidates` meets its contract.
use mathlib.Core.Path.{◌≡◌}
use lib.ListN.{length}
use Rattle.ground.specs.Script.{run}
use Rattle.ground.specs.Span.{span}
use Rattle.stack.specs.Code.Found.{live}
use Rattle.stack.specs.Code.Numbers.{found_at}
use Rattle.search.proofs.lent_bytes.Stored.{candidate_of}
use Rattle.search.proofs.lent_bytes.store.put_candidates.Given as goal

abbrev pub invariant-loop-i : goal.invariant-loop-i
invariant-loop-i l =
    (length l.stack ≡ length l.initial.stack) × (l.stack ≡ run (span (candidate_of l.compound (live (found_at l.s))) 0 l.i) l.initial.stack)
