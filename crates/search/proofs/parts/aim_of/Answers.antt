-- `search::parts::aim_of` meets its contract.
use mir.Syntax.{w16}
use Rattle.ground.proofs.Bits.{same}
use Rattle.search.specs.Parts.{aim_of}
use Rattle.search.proofs.parts.aim_of.Goals as goal

pub returns : goal.returns
unfolding aim_of
returns c = rw (← c.global_of-global.ensures, ← c.is_ref.ensures, ← c.distance_to.ensures, ← c.distance_to-2.ensures, same w16 c.distance_to.result c.distance_to.type_inv, same w16 c.distance_to-2.result c.distance_to-2.type_inv)
