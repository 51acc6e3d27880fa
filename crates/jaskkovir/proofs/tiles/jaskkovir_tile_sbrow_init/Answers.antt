-- `jaskkovir::tiles::jaskkovir_tile_sbrow_init` meets its contract.
use mathlib.Core.Path.{◌∙◌}
use borrow.Author.Tests.{lt-ltb, le-ltb}
use Rattle.ground.proofs.Picks.{or-on, or_off}
use Rattle.jaskkovir.specs.Tiled.{row_init_answer, row_init_script}
use Rattle.jaskkovir.proofs.Lent.{refused-short, answered}
use Rattle.jaskkovir.proofs.tiles.jaskkovir_tile_sbrow_init.Goals as goal

pub returns-then-frame-lt-FRAME : goal.returns-then-frame-lt-FRAME
unfolding row_init_answer row_init_script
returns-then-frame-lt-FRAME c = let it = refused-short _ _ _ _ (or-on _ (lt-ltb _ _ c.if-frame-lt-FRAME.true)) in record { value = it.0; tile_after = it.1 }

pub returns-then-tile-lt-TILE : goal.returns-then-tile-lt-TILE
unfolding row_init_answer row_init_script
returns-then-tile-lt-TILE c = let it = refused-short _ _ _ _ (or_off (le-ltb _ _ c.if-frame-lt-FRAME.false) ∙ lt-ltb _ _ c.if-tile-lt-TILE.true) in record { value = it.0; tile_after = it.1 }

pub returns : goal.returns
unfolding row_init_answer row_init_script
returns c = let it = answered _ _ _ _ (or_off (le-ltb _ _ c.if-frame-lt-FRAME.false) ∙ le-ltb _ _ c.if-tile-lt-TILE.false) c.set_row.ensures.value c.set_row.ensures.tile_after in record { value = it.0; tile_after = it.1 }
