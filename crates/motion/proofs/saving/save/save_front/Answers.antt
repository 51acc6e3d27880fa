-- `motion::saving::save::save_front` meets its contract.
use mathlib.Core.Path.{sym, ◌∙◌}
use native.Mathlib.Omega.{arith}
use borrow.Author.Tests.{le-ltb, lt-ltb}
use Rattle.frame.specs.extent.Sizes.{saved_cells}
use Rattle.frame.proofs.extent.Sizing.{fits, saved-most}
use Rattle.frame.proofs.Records.{frame-sizes}
use Rattle.rows.proofs.Parts.{records-fit}
use Rattle.motion.specs.saving.Save.{save_front}
use Rattle.motion.proofs.saving.save.save_front.Goals as goal

pub returns-then-not-is_pass : goal.returns-then-not-is_pass
unfolding save_front
returns-then-not-is_pass c = rw (← c.is_pass.ensures, c.if-not-is_pass.true)

pub returns-then-not-well_formed : goal.returns-then-not-well_formed
unfolding save_front
returns-then-not-well_formed c = rw (← c.is_pass.ensures, c.if-not-is_pass.false, ← c.well_formed-2.ensures, c.if-not-well_formed.true)

pub returns-then-not-well_formed-2 : goal.returns-then-not-well_formed-2
unfolding save_front
returns-then-not-well_formed-2 c = rw (← c.is_pass.ensures, c.if-not-is_pass.false, ← c.well_formed-2.ensures, c.if-not-well_formed.false, ← c.well_formed-3.ensures, c.if-not-well_formed-2.true)

pub saved_cells-requires : goal.saved_cells-requires
saved_cells-requires c = frame-sizes c.args.f (sym c.well_formed-2.ensures ∙ c.if-not-well_formed.false)

pub overflow_mul-saved_cells : goal.overflow_mul-saved_cells
unfolding saved_cells
overflow_mul-saved_cells c = let m = saved-most _ (fits _ (frame-sizes c.args.f (sym c.well_formed-2.ensures ∙ c.if-not-well_formed.false))) in record { fits = omega (arith, c.saved_cells.ensures) }

pub returns-then-nfield-saved_cells : goal.returns-then-nfield-saved_cells
unfolding save_front
returns-then-nfield-saved_cells c = rw (← c.is_pass.ensures, c.if-not-is_pass.false, ← c.well_formed-2.ensures, c.if-not-well_formed.false, ← c.well_formed-3.ensures, c.if-not-well_formed-2.false, ← c.saved_cells.ensures, lt-ltb _ _ c.if-nfield-saved_cells.true)

pub records-requires : goal.records-requires
records-requires c = frame-sizes c.args.f (sym c.well_formed-2.ensures ∙ c.if-not-well_formed.false)

pub overflow_mul-records : goal.overflow_mul-records
overflow_mul-records c = let m = records-fit _ (fits _ (frame-sizes c.args.f (sym c.well_formed-2.ensures ∙ c.if-not-well_formed.false))) in record { fits = omega (arith, c.records.ensures) }

pub returns-then-nrecs-records : goal.returns-then-nrecs-records
unfolding save_front
returns-then-nrecs-records c = rw (← c.is_pass.ensures, c.if-not-is_pass.false, ← c.well_formed-2.ensures, c.if-not-well_formed.false, ← c.well_formed-3.ensures, c.if-not-well_formed-2.false, ← c.saved_cells.ensures, le-ltb _ _ c.if-nfield-saved_cells.false, ← c.records.ensures, lt-ltb _ _ c.if-nrecs-records.true)

pub returns-else-nrecs-records : goal.returns-else-nrecs-records
unfolding save_front
returns-else-nrecs-records c = rw (← c.is_pass.ensures, c.if-not-is_pass.false, ← c.well_formed-2.ensures, c.if-not-well_formed.false, ← c.well_formed-3.ensures, c.if-not-well_formed-2.false, ← c.saved_cells.ensures, le-ltb _ _ c.if-nfield-saved_cells.false, ← c.records.ensures, le-ltb _ _ c.if-nrecs-records.false)
