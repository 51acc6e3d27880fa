-- `layout::frame_bytes::well_hints` meets its contract.
use Rattle.std.proofs.Common.{rules}
use borrow.Author.Tests.{tests}
use lib.ListN.{get_or}
use Rattle.frame.specs.hints.Distances.{well_hint}
use Rattle.frame.specs.Record.{no_hint}
use Rattle.layout.specs.FrameBytes.{ref_hints_at}
use Rattle.layout.proofs.Ranges.{range-all}
use Rattle.layout.proofs.frame_bytes.well_hints.Goals as goal

pub returns : goal.returns
returns c = range-all 7 (λ i. well_hint (get_or (ref_hints_at c.args.s.now) i no_hint)) c.all.ensures.ran (λ x q k. search (rules, tests)) (λ x q k. search (rules, tests))
