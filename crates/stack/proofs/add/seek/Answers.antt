-- `stack::add::seek` meets its contract.
use Rattle.std.proofs.Common.{rules, tests, ◌≡◌, ◌∙◌, take, eqb}
use Rattle.std.proofs.lemmas.Iterator.Search.{position_from_yields_List}
use Rattle.std.proofs.lemmas.Iterator.{YieldsList-from_slice}
use Rattle.std.specs.List.{position}
use Rattle.stack.specs.Code.Numbers.{count_at}
use Rattle.stack.proofs.Adds.{position-is}
use Rattle.stack.proofs.add.seek.Goals as goal

pub returns : goal.returns
returns c =
    let found : c.position.result ≡ position (λ x. eqb x c.args.k) (take (count_at c.args.s.now) c.args.s.now) =
    position_from_yields_List (λ x. eqb x c.args.k) _ _ c.position.result c.position.ensures.ran (YieldsList-from_slice _ (search rules)) (λ x b q k. search (rules, tests)) in
    found ∙ position-is c.args.s.now c.requires c.args.k (λ i. (c.type_inv.s i).fits) c.ranges.k.fits
