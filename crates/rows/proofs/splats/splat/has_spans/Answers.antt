-- `rows::splats::splat::has_spans` meets its contract.
use Rattle.frame.proofs.extent.Sizing.{stride-small}
use Rattle.rows.specs.splats.Splat.{spans}
use Rattle.std.proofs.Common.{rules}
use Rattle.rows.proofs.splats.splat.has_spans.Goals as goal

pub doubled-row-requires : goal.doubled-row-requires
doubled-row-requires c = stride-small c.args.s c.requires

pub returns-then-w-row : goal.returns-then-w-row
unfolding spans
returns-then-w-row c = search rules

pub returns-else-w-row : goal.returns-else-w-row
unfolding spans
returns-else-w-row c = search rules
