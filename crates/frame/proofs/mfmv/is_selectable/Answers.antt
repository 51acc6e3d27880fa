-- `frame::mfmv::is_selectable` meets its contract.
use Rattle.frame.specs.hints.Selection.{selectable}
use Rattle.std.proofs.Common.{rules}
use Rattle.frame.proofs.mfmv.is_selectable.Goals as goal

pub returns-then-reference-ge-BWDREF : goal.returns-then-reference-ge-BWDREF
unfolding selectable
returns-then-reference-ge-BWDREF c = search rules

pub returns-else-reference-ge-BWDREF : goal.returns-else-reference-ge-BWDREF
unfolding selectable
returns-else-reference-ge-BWDREF c = search rules
