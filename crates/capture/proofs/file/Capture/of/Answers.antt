-- `capture::file::Capture::of` meets its contract.
use mathlib.Core.Path.{sym, ◌∙◌}
use Rattle.capture.proofs.Files.{no_entries}
use Rattle.capture.proofs.file.Capture.of.Goals as goal
use Rattle.capture.proofs.file.Capture.of.Goals.{in_default-via-in-Some+else-is_well, in_default-via-in_default}

pub returns-in_default : goal.returns-in_default
returns-in_default c = elim c.in_default.branch [
  | in_default-via-in-Some+else-is_well w ↦ sym w.is_well.ensures ∙ w.if-is_well.false
  | in_default-via-in_default w ↦ no_entries _ w.in_default.ensures
]
