-- `jaskkovir::blocks::write_rows` meets its contract.
use Rattle.std.proofs.Common.{◌≡◌, ◌+◌, ◌-◌, ◌/◌, length, sym, ap, ◌∙◌, arith}
use Rattle.ground.specs.Script.{run}
use Rattle.std.specs.Prelude.{Option, ℕ}
use Rattle.rows.specs.splats.Splat.{row_patch, row_patches, rows_read}
use Rattle.rows.proofs.splats.Splats.{read_first, rows_on, rows-done, entry-most}
use Rattle.layout.specs.TileBytes.{tile_at}
use Rattle.jaskkovir.proofs.blocks.write_rows.Goals as goal

pub overflow_add-e-end : goal.overflow_add-e-end
overflow_add-e-end c = record { fits = omega (arith, c.first_entry-first.ensures, entry-most c.args.b.y.0, c.requires.in_bounds.1) }

pub write_row-requires : goal.write_row-requires
write_row-requires c =
    rw (c.entry_in.ensures, c.loop-e.auto.records)
    (read_first (tile_at c.args.tile.now).rows _ _ _ _ (omega (arith, c.loop-e-test.true)) c.loop-e.invariant.0).0

pub loop-e-preserved : goal.loop-e-preserved
loop-e-preserved c =
    let a = c.args in
    let b = a.b in
    let l = c.loop-e in
    let end = c.first_entry-first.result + b.h.0 in
    let s : end - (l.e + 1) ≡ end - l.e - 1 = omega arith in
    let rows = (tile_at a.tile.now).rows in (
      ap (rows_read rows (length a.records.now / 12) (b.x.0 + b.w.0) (l.e + 1)) s
          ∙ (read_first rows _ _ l.e (end - l.e) (omega (arith, c.loop-e-test.true)) l.invariant.0).1,
      ap (λ k. run (row_patches rows b.block b.x.0 b.w.0 (l.e + 1) k) c.write_row.new.records) s
          ∙ rows_on rows b.block b.x.0 b.w.0 l.records l.e (end - l.e) (omega (arith, c.loop-e-test.true))
          (c.write_row.ensures ∙ ap (λ (p : Option ℕ). run (row_patch b.block b.x.0 b.w.0 p) l.records) c.entry_in.ensures)
          ∙ l.invariant.1,
    )

pub returns : goal.returns
returns c =
    let b = c.args.b in
    let rows = (tile_at c.args.tile.now).rows in
    sym (rows-done rows b.block _ _ _ _ _ (omega (arith, c.loop-e-test.false)))
    ∙ c.loop-e.invariant.1
    ∙ ap (λ e. run (row_patches rows b.block b.x.0 b.w.0 e b.h.0) c.args.records.now) c.first_entry-first.ensures
