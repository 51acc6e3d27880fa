-- `search::front::context::matches` meets its contract.
use mathlib.Core.Path.{◌∙◌}
use native.Mathlib.Omega.{arith}
use Rattle.frame.proofs.hints.Flags.{flag-is}
use Rattle.stack.specs.Code.Found.{view}
use Rattle.search.specs.front.Context.{matches_of}
use Rattle.search.proofs.front.Contexts.{flag-most}
use Rattle.search.proofs.front.context.matches.Goals as goal

pub overflow_add-result : goal.overflow_add-result
overflow_add-result c =
    let f = flag-most c.flag_in.result (c.from.ensures ∙ flag-is _) in
    let g = flag-most c.flag_in-2.result (c.from-2.ensures ∙ flag-is _) in
    record { fits = omega arith }

pub returns : goal.returns
unfolding matches_of view
returns c =
    let f = flag-most c.flag_in.result (c.from.ensures ∙ flag-is _) in
    let g = flag-most c.flag_in-2.result (c.from-2.ensures ∙ flag-is _) in
    (rw ((c.from.ensures ∙ flag-is _), (c.from-2.ensures ∙ flag-is _), c.flag_in.ensures, c.flag_in-2.ensures), omega arith)
