-- `temporal::sweep::sweep_all` meets its contract.
use Rattle.temporal.specs.Sweep.{temporal_of}
use Rattle.temporal.proofs.sweep.sweep_all.Goals as goal

pub returns-then-has_corners-clause-s_after : goal.returns-then-has_corners-clause-s_after
unfolding temporal_of
returns-then-has_corners-clause-s_after c =
    rw (c.corners.ensures.s_after, c.block-r.ensures.s_after, ← c.has_corners.ensures, c.if-has_corners.true)

pub returns-else-has_corners-clause-s_after : goal.returns-else-has_corners-clause-s_after
unfolding temporal_of
returns-else-has_corners-clause-s_after c = rw (c.block-r.ensures.s_after, ← c.has_corners.ensures, c.if-has_corners.false)
