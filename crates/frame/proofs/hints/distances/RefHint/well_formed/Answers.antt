-- `frame::hints::distances::RefHint::well_formed` meets its contract.
use mathlib.Core.Path.{ap, ◌∙◌}
use mir.Syntax.{w16}
use lib.Dec.{leb}
use lib.IntN.{nat_abs}
use Rattle.ground.proofs.Bits.{same}
use Rattle.frame.specs.hints.Distances.{well_hint}
use Rattle.std.proofs.Common.{rules}
use Rattle.frame.proofs.hints.distances.RefHint.well_formed.Goals as goal

pub returns-then-self-le1-2 : goal.returns-then-self-le1-2
unfolding well_hint
returns-then-self-le1-2 c = let e = c.near.ensures ∙ ap (λ z. leb (nat_abs z) 31) (same w16 c.args.self.pocdiff (search rules)) in search rules

pub returns-else-self-le1-2 : goal.returns-else-self-le1-2
unfolding well_hint
returns-else-self-le1-2 c = search rules
