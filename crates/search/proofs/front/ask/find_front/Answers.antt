-- `search::front::ask::find_front` meets its contract.
use mathlib.Core.Path.{ap}
use mathlib.Core.Bool.{not}
use native.Mathlib.Omega.{arith}
use borrow.Author.Tests.{le-ltb, lt-ltb, eq-eqb, ne_eqb}
use Rattle.frame.proofs.extent.Sizing.{fits}
use Rattle.rows.proofs.Parts.{records-fit}
use Rattle.layout.specs.FrameBytes.{frame_at}
use Rattle.layout.proofs.Read.{sizes-well}
use Rattle.search.specs.front.Ask.{find_front}
use Rattle.search.proofs.front.Fronts.{projected-fit}
use Rattle.search.proofs.front.ask.find_front.Goals.{then-not-well_frame-via-then-not-well_frame, then-not-well_frame-via-else-not-well_frame+then-not-are_flags}
use Rattle.search.proofs.front.ask.find_front.Goals as goal

pub returns-then-not-well_frame : goal.returns-then-not-well_frame
unfolding find_front
returns-then-not-well_frame c =
    elim c.then-not-well_frame.branch [
      | then-not-well_frame-via-then-not-well_frame w ↦ rw (← c.well_frame.ensures, w.if-not-well_frame.true)
      | then-not-well_frame-via-else-not-well_frame+then-not-are_flags w ↦
          rw (← c.well_frame.ensures, w.if-not-well_frame.false, ← w.are_flags.ensures, w.if-not-are_flags.true)
    ]

pub returns-then-not-is_askable : goal.returns-then-not-is_askable
unfolding find_front frame_at
returns-then-not-is_askable c = rw (← c.well_frame.ensures, c.if-not-well_frame.false, ← c.are_flags.ensures, c.if-not-are_flags.false, ← c.sizes_at-s.ensures, ← c.use_ref_frame_mvs_in-temporal.ensures, ← c.columns_at.ensures, ← c.rows_at.ensures, ← c.is_askable.ensures, c.if-not-is_askable.true)

pub records-requires : goal.records-requires
records-requires c = sizes-well c.args.frame.now c.sizes_at-s.ensures c.well_frame.ensures (ap not c.if-not-well_frame.false)

pub overflow_mul-records : goal.overflow_mul-records
overflow_mul-records c = let k = records-fit _ (fits _ (sizes-well c.args.frame.now c.sizes_at-s.ensures c.well_frame.ensures (ap not c.if-not-well_frame.false))) in record { fits = omega (arith, c.records.ensures) }

pub returns-then-nrecs-records : goal.returns-then-nrecs-records
unfolding find_front frame_at
returns-then-nrecs-records c = rw (← c.well_frame.ensures, c.if-not-well_frame.false, ← c.are_flags.ensures, c.if-not-are_flags.false, ← c.sizes_at-s.ensures, ← c.use_ref_frame_mvs_in-temporal.ensures, ← c.columns_at.ensures, ← c.rows_at.ensures, ← c.is_askable.ensures, c.if-not-is_askable.false, ← c.records.ensures, lt-ltb _ _ c.if-nrecs-records.true)

pub returns-then-temporal-eq0 : goal.returns-then-temporal-eq0
unfolding find_front frame_at
returns-then-temporal-eq0 c = rw (← c.well_frame.ensures, c.if-not-well_frame.false, ← c.are_flags.ensures, c.if-not-are_flags.false, ← c.sizes_at-s.ensures, ← c.use_ref_frame_mvs_in-temporal.ensures, ← c.columns_at.ensures, ← c.rows_at.ensures, ← c.is_askable.ensures, c.if-not-is_askable.false, ← c.records.ensures, le-ltb _ _ c.if-nrecs-records.false, eq-eqb _ _ c.if-temporal-eq0.true)

pub projected_cells-requires : goal.projected_cells-requires
projected_cells-requires c = sizes-well c.args.frame.now c.sizes_at-s.ensures c.well_frame.ensures (ap not c.if-not-well_frame.false)

pub overflow_mul-projected_cells : goal.overflow_mul-projected_cells
overflow_mul-projected_cells c = let k = projected-fit _ (fits _ (sizes-well c.args.frame.now c.sizes_at-s.ensures c.well_frame.ensures (ap not c.if-not-well_frame.false))) in record { fits = omega (arith, c.projected_cells.ensures) }

pub returns-then-nproj-projected_cells : goal.returns-then-nproj-projected_cells
unfolding find_front frame_at
returns-then-nproj-projected_cells c = rw (← c.well_frame.ensures, c.if-not-well_frame.false, ← c.are_flags.ensures, c.if-not-are_flags.false, ← c.sizes_at-s.ensures, ← c.use_ref_frame_mvs_in-temporal.ensures, ← c.columns_at.ensures, ← c.rows_at.ensures, ← c.is_askable.ensures, c.if-not-is_askable.false, ← c.records.ensures, le-ltb _ _ c.if-nrecs-records.false, ne_eqb _ _ c.if-temporal-eq0.false, ← c.projected_cells.ensures, lt-ltb _ _ c.if-nproj-projected_cells.true)

pub returns-else-nproj-projected_cells : goal.returns-else-nproj-projected_cells
unfolding find_front frame_at
returns-else-nproj-projected_cells c = rw (← c.well_frame.ensures, c.if-not-well_frame.false, ← c.are_flags.ensures, c.if-not-are_flags.false, ← c.sizes_at-s.ensures, ← c.use_ref_frame_mvs_in-temporal.ensures, ← c.columns_at.ensures, ← c.rows_at.ensures, ← c.is_askable.ensures, c.if-not-is_askable.false, ← c.records.ensures, le-ltb _ _ c.if-nrecs-records.false, ne_eqb _ _ c.if-temporal-eq0.false, ← c.projected_cells.ensures, le-ltb _ _ c.if-nproj-projected_cells.false)
