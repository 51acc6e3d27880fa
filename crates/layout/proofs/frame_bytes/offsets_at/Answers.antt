-- `layout::frame_bytes::offsets_at` meets its contract.
use mathlib.Core.Path.{ap, ◌∙◌}
use lib.ListN.{take}
use Rattle.layout.proofs.Pieces.{seven_from}
use Rattle.layout.proofs.Starts.{behind}
use Rattle.layout.proofs.frame_bytes.offsets_at.Goals as goal

pub returns : goal.returns
returns c = c.first_bytes.ensures ∙ ap (take 7) (behind c.args.s.now c.args.at) ∙ seven_from _ _ c.requires
