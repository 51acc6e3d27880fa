-- `spatial::neighbours::want::lent` meets its contract.
use Rattle.spatial.specs.neighbours.Want.{lent_of}
use Rattle.spatial.proofs.neighbours.want.lent.Goals.{else-global-via-then-global+else-not-is_invalid, else-global-via-else-global}
use Rattle.spatial.proofs.neighbours.want.lent.Goals as goal

pub returns-then-not-is_invalid : goal.returns-then-not-is_invalid
unfolding lent_of
returns-then-not-is_invalid c = rw (c.if-global.true, ← c.is_invalid.ensures, c.if-not-is_invalid.true)

pub returns-else-global : goal.returns-else-global
unfolding lent_of
returns-else-global c =
    elim c.else-global.branch [
      | else-global-via-then-global+else-not-is_invalid w ↦ rw (w.if-global.true, ← w.is_invalid.ensures, w.if-not-is_invalid.false)
      | else-global-via-else-global w ↦ rw w.if-global.false
    ]
