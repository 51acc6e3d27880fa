-- `search::lent_bytes::store::put_fills` meets its contract.
use mathlib.Core.Path.{◌≡◌}
use Prim.Native.Nat.{◌-◌, ◌≤◌}
use lib.ListN.{length}
use Rattle.ground.specs.Script.{run}
use Rattle.ground.specs.Span.{span}
use Rattle.search.specs.lent_bytes.Store.{fill_patch}
use Rattle.search.proofs.lent_bytes.store.put_fills.Given as goal

abbrev pub invariant-loop-i : goal.invariant-loop-i
invariant-loop-i l =
    (l.count ≤ l.i) × (l.i - l.count ≤ 2 - l.count) × (length l.stack ≡ length l.initial.stack) × (l.stack ≡ run (span (fill_patch l.fill) l.count l.i) l.initial.stack)
