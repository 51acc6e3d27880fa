-- `frame::mfmv::offset_of` meets its contract.
use mathlib.Core.Path.{sym, ap, ◌∙◌}
use mir.Facts.{to_z-of_z}
use native.Mathlib.Omega.{arith}
use lib.IntN.{nat_abs}
use Rattle.ground.specs.Sign.{below}
use Rattle.ground.proofs.Picks.{or-on, or_off}
use Rattle.frame.specs.Mfmv.{far}
use Rattle.frame.proofs.Mfmvs.{near, offset-none, offset-is}
use Rattle.frame.proofs.mfmv.offset_of.Goals.{then-negative-via-then-negative, then-negative-via-else-negative+then-is_far}
use Rattle.frame.proofs.mfmv.offset_of.Goals as goal

pub returns-then-negative : goal.returns-then-negative
returns-then-negative c =
    let z = c.args.z in
    let n = c.negative.ensures ∙ ap below (to_z-of_z c.ranges.z) in
    elim c.then-negative.branch [
      | then-negative-via-then-negative w ↦ offset-none z (or-on _ (sym n ∙ w.if-negative.true))
      | then-negative-via-else-negative+then-is_far w ↦ offset-none z (or_off (sym n ∙ w.if-negative.false) ∙ sym (w.is_far.ensures ∙ ap far (to_z-of_z c.ranges.z)) ∙ w.if-is_far.true)
    ]

pub overflow_cast-result : goal.overflow_cast-result
overflow_cast-result c = let s = c in let h = near s.args.z (sym (c.is_far.ensures ∙ ap far (to_z-of_z s.ranges.z)) ∙ c.if-is_far.false) in let e = c.magnitude.ensures ∙ ap nat_abs (to_z-of_z s.ranges.z) in record { fits = omega arith }

pub returns : goal.returns
returns c = let s = c in c.magnitude.ensures ∙ ap nat_abs (to_z-of_z s.ranges.z) ∙ offset-is s.args.z (sym (c.negative.ensures ∙ ap below (to_z-of_z s.ranges.z)) ∙ c.if-negative.false) (sym (c.is_far.ensures ∙ ap far (to_z-of_z s.ranges.z)) ∙ c.if-is_far.false)
