-- `layout::frame_bytes::hint_in` meets its contract.
use mathlib.Core.Path.{◌∙◌}
use Rattle.layout.proofs.Read.{hint-here}
use Rattle.layout.proofs.frame_bytes.hint_in.Goals as goal

pub returns : goal.returns
returns c = c.hint_at.ensures ∙ hint-here _ _ c.requires.1
