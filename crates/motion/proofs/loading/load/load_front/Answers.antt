-- `motion::loading::load::load_front` meets its contract.
use Rattle.rows.proofs.Parts.{blocks-fit}
use Rattle.motion.proofs.loading.Usings.{able-fields}
use borrow.Author.Tests.{lt-ltb, le-ltb}
use Rattle.frame.proofs.extent.Sizing.{fits, saved-most}
use Rattle.frame.proofs.Records.{frame-sizes}
use Rattle.frame.specs.extent.Sizes.{saved_cells, projected_cells}
use Rattle.motion.specs.loading.Load.{load_front}
use native.Mathlib.Omega.{arith}
use mathlib.Core.Path.{sym, ◌∙◌}
use Rattle.motion.proofs.loading.load.load_front.Goals as goal

pub returns-then-not-well_formed : goal.returns-then-not-well_formed
unfolding load_front
returns-then-not-well_formed c = rw (← c.well_formed-2.ensures, c.if-not-well_formed.true)

pub returns-then-not-well_formed-2 : goal.returns-then-not-well_formed-2
unfolding load_front
returns-then-not-well_formed-2 c = rw (← c.well_formed-2.ensures, c.if-not-well_formed.false, ← c.well_formed-3.ensures, c.if-not-well_formed-2.true)

pub returns-then-not-well_formed-3 : goal.returns-then-not-well_formed-3
unfolding load_front
returns-then-not-well_formed-3 c = rw (← c.well_formed-2.ensures, c.if-not-well_formed.false, ← c.well_formed-3.ensures, c.if-not-well_formed-2.false, ← c.well_formed-4.ensures, c.if-not-well_formed-3.true)

pub projected_cells-requires : goal.projected_cells-requires
projected_cells-requires c = frame-sizes c.args.f (sym c.well_formed-2.ensures ∙ c.if-not-well_formed.false)

pub overflow_mul-projected_cells : goal.overflow_mul-projected_cells
unfolding projected_cells
overflow_mul-projected_cells c = let m = blocks-fit _ (fits _ (frame-sizes c.args.f (sym c.well_formed-2.ensures ∙ c.if-not-well_formed.false))) in record { fits = omega (arith, c.projected_cells.ensures) }

pub returns-then-nproj-projected_cells : goal.returns-then-nproj-projected_cells
unfolding load_front
returns-then-nproj-projected_cells c = rw (← c.well_formed-2.ensures, c.if-not-well_formed.false, ← c.well_formed-3.ensures, c.if-not-well_formed-2.false, ← c.well_formed-4.ensures, c.if-not-well_formed-3.false, ← c.projected_cells.ensures, lt-ltb _ _ c.if-nproj-projected_cells.true)

pub saved_cells-requires : goal.saved_cells-requires
saved_cells-requires c = frame-sizes c.args.f (sym c.well_formed-2.ensures ∙ c.if-not-well_formed.false)

pub overflow_mul-saved_cells : goal.overflow_mul-saved_cells
unfolding saved_cells
overflow_mul-saved_cells c = let m = saved-most _ (fits _ (frame-sizes c.args.f (sym c.well_formed-2.ensures ∙ c.if-not-well_formed.false))) in record { fits = omega (arith, c.saved_cells.ensures) }

pub are_long-requires : goal.are_long-requires
are_long-requires c = able-fields _ c.uses_of-us.ensures (sym c.well_formed-2.ensures ∙ c.if-not-well_formed.false)

pub returns-then-not-are_long : goal.returns-then-not-are_long
unfolding load_front
returns-then-not-are_long c = rw (← c.well_formed-2.ensures, c.if-not-well_formed.false, ← c.well_formed-3.ensures, c.if-not-well_formed-2.false, ← c.well_formed-4.ensures, c.if-not-well_formed-3.false, ← c.projected_cells.ensures, le-ltb _ _ c.if-nproj-projected_cells.false, ← c.uses_of-us.ensures, ← c.saved_cells.ensures, ← c.are_long.ensures, c.if-not-are_long.true)

pub are_lent-requires : goal.are_lent-requires
are_lent-requires c = able-fields _ c.uses_of-us.ensures (sym c.well_formed-2.ensures ∙ c.if-not-well_formed.false)

pub returns-then-are_lent : goal.returns-then-are_lent
unfolding load_front
returns-then-are_lent c = rw (← c.well_formed-2.ensures, c.if-not-well_formed.false, ← c.well_formed-3.ensures, c.if-not-well_formed-2.false, ← c.well_formed-4.ensures, c.if-not-well_formed-3.false, ← c.projected_cells.ensures, le-ltb _ _ c.if-nproj-projected_cells.false, ← c.uses_of-us.ensures, ← c.saved_cells.ensures, ← c.are_long.ensures, c.if-not-are_long.false, ← c.are_lent.ensures, c.if-are_lent.true)

pub returns-else-are_lent : goal.returns-else-are_lent
unfolding load_front
returns-else-are_lent c = rw (← c.well_formed-2.ensures, c.if-not-well_formed.false, ← c.well_formed-3.ensures, c.if-not-well_formed-2.false, ← c.well_formed-4.ensures, c.if-not-well_formed-3.false, ← c.projected_cells.ensures, le-ltb _ _ c.if-nproj-projected_cells.false, ← c.uses_of-us.ensures, ← c.saved_cells.ensures, ← c.are_long.ensures, c.if-not-are_long.false, ← c.are_lent.ensures, c.if-are_lent.false)
