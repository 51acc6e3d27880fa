-- `temporal::sweep::Swept::block` meets its contract.
use Rattle.std.proofs.Common.{true, false, arith}
use Rattle.spatial.proofs.site.Sides.{limit-most}
use Rattle.temporal.specs.Sweep.{grid_of}
use Rattle.temporal.proofs.sweep.Swept.block.Goals as goal

pub cells_along-n-requires : goal.cells_along-n-requires
cells_along-n-requires c =
    (omega (arith, c.limit.ensures, limit-most false c.args.b), c.stride_along-dx.ensures.1, c.stride_along-dx.ensures.2)

pub cells_along-m-requires : goal.cells_along-m-requires
cells_along-m-requires c =
    (omega (arith, c.limit-2.ensures, limit-most true c.args.b), c.stride_along-dy.ensures.1, c.stride_along-dy.ensures.2)

pub returns-clause-s_after : goal.returns-clause-s_after
unfolding grid_of
returns-clause-s_after c =
    rw (
      c.grid.ensures.s_after,
      c.cells_along-m.ensures.0,
      c.limit-2.ensures,
      c.cells_along-n.ensures.0,
      c.limit.ensures,
      c.stride_along-dy.ensures.0,
      c.stride_along-dx.ensures.0,
    )
