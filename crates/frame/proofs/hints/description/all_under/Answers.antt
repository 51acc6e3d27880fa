-- `frame::hints::description::all_under` meets its contract.
use mathlib.Core.Path.{◌∙◌}
use borrow.Author.Tests.{tests}
use lib.Dec.{ltb}
use Rattle.std.proofs.lemmas.Iterator.{YieldsList-from_slice}
use Rattle.std.proofs.lemmas.Iterator.Search.{all_from_yields_List}
use Rattle.frame.proofs.Alls.{under-is}
use Rattle.std.proofs.Common.{rules}
use Rattle.frame.proofs.hints.description.all_under.Goals as goal

pub returns : goal.returns
returns c = let xs = c.args.xs.now in all_from_yields_List (λ x. ltb x c.args.limit) _ _ _ c.all.ensures.ran (YieldsList-from_slice xs cc) (λ x b q k. search (rules, tests)) ∙ under-is c.args.limit xs
