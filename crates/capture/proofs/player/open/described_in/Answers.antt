-- `capture::player::open::described_in` meets its contract.
use mathlib.Core.Path.{ap, ◌∙◌}
use Rattle.layout.specs.DescriptionBytes.{description_at}
use Rattle.capture.proofs.player.Opens.{described-long}
use Rattle.capture.proofs.player.open.described_in.Goals as goal

pub description_at-requires : goal.description_at-requires
description_at-requires c = rw c.body.ensures (described-long _ c.args.capture.now.well)

pub returns : goal.returns
returns c = c.description_at.ensures ∙ ap description_at c.body.ensures
