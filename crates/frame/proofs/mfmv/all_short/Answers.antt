-- `frame::mfmv::all_short` meets its contract.
use Rattle.frame.proofs.hints.Shorts.{seven-short}
use borrow.Author.Rules.{rules}
use Rattle.frame.proofs.mfmv.all_short.Goals as goal

pub returns : goal.returns
returns c = seven-short _ (search rules)
