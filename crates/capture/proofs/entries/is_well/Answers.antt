-- `capture::entries::is_well` meets its contract.
use mathlib.Core.Path.{sym}
use Rattle.capture.proofs.Files.{no_entries}
use Rattle.capture.proofs.entries.is_well.Goals as goal

pub returns-in-None : goal.returns-in-None
returns-in-None c = sym (no_entries _ c.in-None.ensures)
