-- `capture::player::play::field_in` meets its contract.
use mathlib.Core.Path.{sym, ◌∙◌}
use mathlib.Core.List.{[]}
use lib.ListN.{get_or-eq_default}
use Rattle.capture.specs.player.Opened.{fields_in}
use Rattle.capture.proofs.player.Opens.{field_at}
use Rattle.capture.proofs.player.play.field_in.Goals as goal

pub returns-then-k-lt-FIELDS : goal.returns-then-k-lt-FIELDS
returns-then-k-lt-FIELDS c = c.body.ensures ∙ field_at _ _ c.if-k-lt-FIELDS.true

pub returns-else-k-lt-FIELDS : goal.returns-else-k-lt-FIELDS
returns-else-k-lt-FIELDS c = sym (get_or-eq_default (fields_in c.args.capture.now.entries.file.now) [] c.if-k-lt-FIELDS.false)
