-- `frame::record::Frame::well_formed` meets its contract.
use mathlib.Core.Path.{◌≡◌, ◌∙◌}
use lib.ListN.{get_or}
use Rattle.ground.specs.Below.{all_below}
use borrow.Author.Tests.{tests}
use Rattle.std.proofs.lemmas.Iterator.{YieldsList-from_slice}
use Rattle.std.proofs.lemmas.Iterator.Search.{all_from_yields_List}
use Rattle.frame.specs.hints.Distances.{well_hint}
use Rattle.frame.specs.Mfmv.{no_mfmv, well_mfmv}
use Rattle.frame.specs.Record.{no_hint, well_frame}
use Rattle.frame.proofs.Alls.{each}
use Rattle.std.proofs.Common.{rules}
use Rattle.frame.proofs.record.Frame.well_formed.Goals.{After-all-mfmvs}
use Rattle.frame.proofs.record.Frame.well_formed.Goals as goal

-- each part of the two arrays, as the definition counts them
hints : (c : After-all-mfmvs) → c.all-hints.result ≡ all_below 7 (λ i. well_hint (get_or c.args.self.refs i no_hint))
hints c =
    all_from_yields_List well_hint _ _ _ c.all-hints.ensures.ran (YieldsList-from_slice c.args.self.refs cc) (λ x b q k. search (rules, tests))
    ∙ each well_hint no_hint 7 c.args.self.refs (search rules)

mfmvs : (c : After-all-mfmvs) → c.all-mfmvs.result ≡ all_below 3 (λ i. well_mfmv (get_or c.args.self.mfmvs i no_mfmv))
mfmvs c =
    all_from_yields_List well_mfmv _ _ _ c.all-mfmvs.ensures.ran (YieldsList-from_slice c.args.self.mfmvs cc) (λ x b q k. search (rules, tests))
    ∙ each well_mfmv no_mfmv 3 c.args.self.mfmvs (search rules)

pub returns-then-hints : goal.returns-then-hints
unfolding well_frame
returns-then-hints c = let a = (goal.at.returns-then-hints c).After-all-mfmvs in let h = hints a in let m = mfmvs a in search rules

pub returns-else-hints : goal.returns-else-hints
unfolding well_frame
returns-else-hints c = let a = (goal.at.returns-else-hints c).After-all-mfmvs in let h = hints a in let m = mfmvs a in search rules
