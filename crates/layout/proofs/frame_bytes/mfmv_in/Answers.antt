-- `layout::frame_bytes::mfmv_in` meets its contract.
use mathlib.Core.Path.{◌∙◌}
use Rattle.layout.proofs.Read.{mfmv-here}
use Rattle.layout.proofs.frame_bytes.mfmv_in.Goals as goal

pub returns : goal.returns
returns c = c.mfmv_at.ensures ∙ mfmv-here _ _ c.requires.1
