-- `motion::saving::save::check_rows` meets its contract.
use Rattle.ground.specs.Span.{first_of}
use Rattle.rows.specs.Setup.{table_for}
use Rattle.motion.specs.saving.Save.{row_read}
use mathlib.Core.Path.{◌≡◌}
use Rattle.motion.proofs.saving.save.check_rows.Given as goal

abbrev pub invariant-loop-y : goal.invariant-loop-y
invariant-loop-y l = first_of (row_read l.recs l.total (table_for l.s l.sby l.a.tile l.pass) l.w) l.y l.w.bottom.0 ≡ first_of (row_read l.recs l.total (table_for l.s l.sby l.a.tile l.pass) l.w) l.w.top.0 l.w.bottom.0
