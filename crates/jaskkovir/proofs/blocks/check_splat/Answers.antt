-- `jaskkovir::blocks::check_splat` meets its contract.
use mathlib.Core.Path.{sym, ◌∙◌}
use native.Mathlib.Omega.{arith}
use borrow.Author.Tests.{le-ltb, lt-ltb}
use Rattle.std.proofs.lemmas.Bool.{not_from_true}
use Rattle.frame.proofs.extent.Sizing.{fits}
use Rattle.rows.specs.splats.Splat.{placeable, splat_answer}
use Rattle.rows.proofs.Parts.{records-fit}
use Rattle.rows.proofs.splats.Splats.{placed, row_listed, entry-most}
use Rattle.layout.specs.FrameBytes.{frame_at}
use Rattle.layout.specs.TileBytes.{tile_at}
use Rattle.layout.proofs.Read.{sizes-well}
use Rattle.jaskkovir.proofs.blocks.check_splat.Goals as goal

pub returns-then-not-well_frame : goal.returns-then-not-well_frame
unfolding splat_answer
returns-then-not-well_frame c = rw (← c.well_frame.ensures, c.if-not-well_frame.true)

pub is_placeable-requires : goal.is_placeable-requires
is_placeable-requires c = sizes-well c.args.frame.now c.sizes_at-s.ensures c.well_frame.ensures (not_from_true _ c.if-not-well_frame.false)

pub returns-then-not-is_placeable : goal.returns-then-not-is_placeable
unfolding splat_answer placeable frame_at
returns-then-not-is_placeable c = rw (← c.well_frame.ensures, c.if-not-well_frame.false, ← c.sizes_at-s.ensures, ← c.columns_at.ensures, ← c.rows_at.ensures, ← c.is_placeable.ensures, c.if-not-is_placeable.true)

pub records-total-requires : goal.records-total-requires
records-total-requires c = sizes-well c.args.frame.now c.sizes_at-s.ensures c.well_frame.ensures (not_from_true _ c.if-not-well_frame.false)

pub overflow_mul-total : goal.overflow_mul-total
overflow_mul-total c = let f = fits _ (sizes-well c.args.frame.now c.sizes_at-s.ensures c.well_frame.ensures (not_from_true _ c.if-not-well_frame.false)) in let k = records-fit _ f in record { fits = omega (arith, c.records-total.ensures) }

pub returns-then-len-total : goal.returns-then-len-total
unfolding splat_answer placeable frame_at
returns-then-len-total c = rw (← c.well_frame.ensures, c.if-not-well_frame.false, ← c.sizes_at-s.ensures, ← c.columns_at.ensures, ← c.rows_at.ensures, ← c.is_placeable.ensures, c.if-not-is_placeable.false, ← c.records-total.ensures, lt-ltb _ _ c.if-len-total.true)

pub overflow_add-b : goal.overflow_add-b
unfolding placeable
overflow_add-b c = let f = fits _ (sizes-well c.args.frame.now c.sizes_at-s.ensures c.well_frame.ensures (not_from_true _ c.if-not-well_frame.false)) in let p = placed c.sizes_at-s.result (tile_at c.args.tile.now) c.args.b (rw (← c.columns_at.ensures, ← c.rows_at.ensures) (sym c.is_placeable.ensures ∙ c.if-not-is_placeable.false)) in let k = records-fit _ f in let l = row_listed _ f in record { fits = omega (arith, p.reach) }

pub read_rows-requires : goal.read_rows-requires
unfolding placeable
read_rows-requires c = let f = fits _ (sizes-well c.args.frame.now c.sizes_at-s.ensures c.well_frame.ensures (not_from_true _ c.if-not-well_frame.false)) in let p = placed c.sizes_at-s.result (tile_at c.args.tile.now) c.args.b (rw (← c.columns_at.ensures, ← c.rows_at.ensures) (sym c.is_placeable.ensures ∙ c.if-not-is_placeable.false)) in let l = row_listed _ f in let e = entry-most c.args.b.y.0 in (c.requires.1, omega (arith, p.reach, c.records-total.ensures), omega (arith, p.height, c.first_entry.ensures))

pub returns : goal.returns
unfolding splat_answer placeable frame_at
returns c = rw (← c.well_frame.ensures, c.if-not-well_frame.false, ← c.sizes_at-s.ensures, ← c.columns_at.ensures, ← c.rows_at.ensures, ← c.is_placeable.ensures, c.if-not-is_placeable.false, ← c.records-total.ensures, le-ltb _ _ c.if-len-total.false, ← c.first_entry.ensures, ← c.read_rows.ensures)
