-- `frame::hints::distances::from_current` meets its contract.
use mir.Syntax.{w16}
use Rattle.ground.proofs.Bits.{kept}
use Rattle.frame.specs.hints.Distances.{from_current}
use Rattle.frame.proofs.hints.Described.{hints}
use Rattle.frame.proofs.hints.distances.from_current.Goals as goal

pub get_poc_diff-requires : goal.get_poc_diff-requires
get_poc_diff-requires c = let h = hints c.args.d c.requires.0 in (h.bits, c.requires.1, h.current)

pub returns : goal.returns
unfolding from_current
returns c = kept w16 c.get_poc_diff.type_inv c.get_poc_diff.ensures
