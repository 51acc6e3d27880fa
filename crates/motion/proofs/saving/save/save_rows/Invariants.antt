-- `motion::saving::save::save_rows` meets its contract.
use Rattle.ground.specs.Script.{run}
use Rattle.ground.specs.Span.{span}
use Rattle.rows.specs.Setup.{table_for}
use Rattle.motion.specs.saving.Save.{row_patch}
use Prim.Native.Nat.{◌-◌, ◌≤◌}
use mathlib.Core.Path.{◌≡◌}
use Rattle.motion.proofs.saving.save.save_rows.Given as goal

abbrev pub invariant-loop-y : goal.invariant-loop-y
invariant-loop-y l = (l.y - l.w.top.0 ≤ l.w.bottom.0 - l.w.top.0) × (l.field ≡ run (span (row_patch l.recs (table_for l.s l.sby l.a.tile l.pass) l.refs l.w) l.w.top.0 l.y) l.initial.field)
