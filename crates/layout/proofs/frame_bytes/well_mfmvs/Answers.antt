-- `layout::frame_bytes::well_mfmvs` meets its contract.
use Rattle.std.proofs.Common.{rules}
use borrow.Author.Tests.{tests}
use lib.ListN.{get_or}
use Rattle.frame.specs.Mfmv.{no_mfmv, well_mfmv}
use Rattle.layout.specs.FrameBytes.{frame_at}
use Rattle.layout.proofs.Ranges.{range-all}
use Rattle.layout.proofs.frame_bytes.well_mfmvs.Goals as goal

pub returns : goal.returns
returns c = range-all 3 (λ i. well_mfmv (get_or (frame_at c.args.s.now).mfmvs i no_mfmv)) c.all.ensures.ran (λ x q k. search (rules, tests)) (λ x q k. search (rules, tests))
