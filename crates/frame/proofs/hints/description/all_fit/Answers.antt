-- `frame::hints::description::all_fit` meets its contract.
use mathlib.Core.Path.{◌∙◌, ap₂}
use lib.Bits.{bit_or}
use lib.Dec.{ltb}
use Rattle.std.proofs.lemmas.Iterator.{YieldsList-from_slice}
use Rattle.std.proofs.lemmas.Iterator.Consumers.{fold_from_yields_List}
use Rattle.frame.proofs.Alls.{together-all}
use Rattle.std.proofs.Common.{rules}
use Rattle.frame.proofs.hints.description.all_fit.Goals as goal

pub returns : goal.returns
returns c = let xs = c.args.xs.now in let f = fold_from_yields_List _ bit_or 0 _ c.fold-together.ensures.ran (YieldsList-from_slice xs cc) (λ a x b q k. search rules) in ap₂ ltb (c.from.ensures ∙ f) c.hint_limit.ensures ∙ together-all c.args.bits xs
