-- `frame::mfmv::toward_current` meets its contract.
use mathlib.Core.Path.{sym, ap, ◌∙◌}
use mir.Facts.{to_z-of_z}
use mir.Syntax.{w16}
use borrow.Author.Tests.{le-leb, lt-leb}
use Rattle.frame.specs.Mfmv.{far, towards}
use Rattle.ground.proofs.Bits.{minus-fits, minus-back}
use Rattle.frame.proofs.Mfmvs.{near_fits}
use Rattle.frame.proofs.mfmv.toward_current.Goals as goal

pub returns-then-is_far : goal.returns-then-is_far
unfolding towards
returns-then-is_far c = let s = c in rw (← (c.is_far.ensures ∙ ap far (to_z-of_z s.ranges.z)), c.if-is_far.true)

pub overflow_sub-result : goal.overflow_sub-result
overflow_sub-result c = let s = c in minus-fits w16 s.args.z (near_fits s.args.z (sym (c.is_far.ensures ∙ ap far (to_z-of_z s.ranges.z)) ∙ c.if-is_far.false))

pub returns-then-reference-le-LAST2 : goal.returns-then-reference-le-LAST2
unfolding towards
returns-then-reference-le-LAST2 c = let s = c in let f = sym (c.is_far.ensures ∙ ap far (to_z-of_z s.ranges.z)) ∙ c.if-is_far.false in rw (f, le-leb _ _ c.if-reference-le-LAST2.true, minus-back w16 s.args.z (near_fits s.args.z f))

pub returns-else-reference-le-LAST2 : goal.returns-else-reference-le-LAST2
unfolding towards
returns-else-reference-le-LAST2 c = let s = c in let f = sym (c.is_far.ensures ∙ ap far (to_z-of_z s.ranges.z)) ∙ c.if-is_far.false in rw (f, lt-leb _ _ c.if-reference-le-LAST2.false, to_z-of_z s.ranges.z)
