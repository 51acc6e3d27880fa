-- `frame::hints::distances::ref_hint` meets its contract.
use mathlib.Core.Path.{ap, ◌∙◌}
use mir.Syntax.{w16}
use Rattle.ground.proofs.Bits.{kept}
use Rattle.vector.specs.Hint.{distance}
use Rattle.ground.specs.Sign.{below, clip3}
use lib.IntN.{pos, negsuc}
use lib.Signed.{lt_z}
use Rattle.frame.specs.hints.Distances.{flag_of, from_current, ref_hint_of}
use Rattle.frame.proofs.hints.Described.{hints, hint-fits}
use Rattle.frame.proofs.hints.Flags.{flag-is}
use borrow.Author.Rules.{rules}
use Rattle.frame.proofs.hints.distances.ref_hint.Goals as goal

pub from_current-there-requires : goal.from_current-there-requires
from_current-there-requires c = (c.requires.0, hint-fits _ _ c.requires.0 c.hint-h.ensures (search rules))

pub get_poc_diff-back-requires : goal.get_poc_diff-back-requires
get_poc_diff-back-requires c = let s = c in let h = hints s.args.d s.requires.0 in (h.bits, h.current, hint-fits _ _ s.requires.0 c.hint-h.ensures (search rules))

pub returns : goal.returns
unfolding ref_hint_of
returns c = let z = kept w16 c.from_current-there.type_inv (c.from_current-there.ensures ∙ ap (from_current c.args.d) c.hint-h.ensures) in
    let y = kept w16 c.get_poc_diff-back.type_inv (c.get_poc_diff-back.ensures ∙ ap (distance c.args.d.hint_bits c.args.d.current_hint) c.hint-h.ensures) in
    let p = kept w16 c.clipped.type_inv (c.clipped.ensures ∙ ap (clip3 (negsuc 30) (pos 31)) y) in
    let n = c.from-2.ensures ∙ flag-is _ ∙ ap flag_of (c.negative.ensures ∙ ap below z) in
    let a = c.from.ensures ∙ flag-is _ ∙ ap flag_of (c.ahead.ensures ∙ ap (lt_z (pos 0)) z) in
    rw (a, n, p)
