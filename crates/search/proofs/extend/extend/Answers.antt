-- `search::extend::extend` meets its contract.
use mathlib.Core.Path.{sym, ◌∙◌}
use native.Mathlib.Omega.{arith}
use Rattle.stack.proofs.Adds.{how-many}
use Rattle.search.proofs.Extends.{extra-enough, extra-none, extra-compound, extra-single}
use Rattle.search.proofs.extend.extend.Goals as goal

pub returns-then-count_in-ge2-clause-s_after : goal.returns-then-count_in-ge2-clause-s_after
returns-then-count_in-ge2-clause-s_after c =
    let h = c.requires.2 in
    extra-enough _ _ _ _ _ _ (how-many _ h) (omega (arith, c.count_in.ensures, c.if-count_in-ge2.true))

pub returns-then-not-is_ref-clause-s_after : goal.returns-then-not-is_ref-clause-s_after
returns-then-not-is_ref-clause-s_after c =
    let h = c.requires.2 in
    let r = c.is_ref in
    extra-none _ _ _ _ _ _ (how-many _ h) (omega (arith, c.count_in.ensures, c.if-count_in-ge2.false)) (sym r.ensures ∙ c.if-not-is_ref.true)

pub returns-then-is_ref-clause-s_after : goal.returns-then-is_ref-clause-s_after
returns-then-is_ref-clause-s_after c =
    let r = c.is_ref in
    let t = c.compound_extra.ensures in
    extra-compound _ _ _ _ _ _ (how-many _ c.requires.2) (omega (arith, c.count_in.ensures, c.if-count_in-ge2.false)) (sym r.ensures ∙ c.if-not-is_ref.false) (sym c.is_ref-2.ensures ∙ c.if-is_ref.true) (rw c.biases_of-biases.ensures at t.s_after)

pub returns-clause-s_after : goal.returns-clause-s_after
returns-clause-s_after c =
    let r = c.is_ref in
    let t = c.single_extra.ensures in
    extra-single _ _ _ _ _ _ (how-many _ c.requires.2) (omega (arith, c.count_in.ensures, c.if-count_in-ge2.false)) (sym r.ensures ∙ c.if-not-is_ref.false) (sym c.is_ref-2.ensures ∙ c.if-is_ref.false) (rw c.biases_of-biases.ensures at t.s_after)
