-- `jaskkovir::blocks::read_rows` meets its contract.
use Rattle.std.proofs.Common.{◌≡◌, ◌+◌, ◌-◌, ap, ◌∙◌, arith}
use Rattle.rows.specs.splats.Splat.{row_read, rows_read}
use Rattle.rows.proofs.splats.Splats.{read-on, read-stops, read_done}
use Rattle.layout.specs.TileBytes.{tile_at}
use Rattle.jaskkovir.proofs.blocks.read_rows.Goals as goal

pub returns-then-a-ne0 : goal.returns-then-a-ne0
returns-then-a-ne0 c =
    read-stops (tile_at c.args.tile.now).rows _ _ _ _ (omega (arith, c.loop-e-test.true)) (c.read_row-a.ensures ∙ ap (row_read _ _) c.entry_in.ensures) c.if-a-ne0.true
    ∙ c.loop-e.invariant

pub loop-e-preserved : goal.loop-e-preserved
loop-e-preserved c =
    let a = c.args in
    let e = c.loop-e.e in
    let s : a.first + a.n - (e + 1) ≡ a.first + a.n - e - 1 = omega arith in
    let rows = (tile_at a.tile.now).rows in
    ap (rows_read rows a.total a.reach (e + 1)) s
    ∙ read-on rows _ _ e (a.first + a.n - e) (omega (arith, c.loop-e-test.true)) (c.read_row-a.ensures ∙ ap (row_read _ _) c.entry_in.ensures) c.if-a-ne0.false
    ∙ c.loop-e.invariant

pub returns : goal.returns
returns c = read_done _ _ _ _ _ (omega (arith, c.loop-e-test.false)) ∙ c.loop-e.invariant
