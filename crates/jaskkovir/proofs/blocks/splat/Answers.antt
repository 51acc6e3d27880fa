-- `jaskkovir::blocks::splat` meets its contract.
use mathlib.Core.Path.{sym, ◌∙◌}
use Rattle.ground.proofs.Answers.{run-refused, run-accepted}
use Rattle.rows.specs.splats.Splat.{splat_script}
use Rattle.rows.proofs.splats.Splats.{accepted}
use Rattle.layout.specs.FrameBytes.{frame_at}
use Rattle.layout.specs.TileBytes.{tile_at}
use Rattle.jaskkovir.proofs.blocks.splat.Goals as goal

pub returns-then-answer-ne0 : goal.returns-then-answer-ne0
unfolding splat_script
returns-then-answer-ne0 c = let e = c.check_splat-answer.ensures in record { value = e; records_after = run-refused _ _ _ (λ z. c.if-answer-ne0.true (e ∙ z)) }

pub write_rows-requires : goal.write_rows-requires
write_rows-requires c = let s = c in let a = accepted (frame_at s.args.frame.now) (tile_at s.args.tile.now) s.args.b _ (sym c.check_splat-answer.ensures ∙ c.if-answer-ne0.false) in record { in_bounds = (s.requires.1, a.placed.height); h_value = a.there }

pub returns : goal.returns
unfolding splat_script
returns c = let e = c.check_splat-answer.ensures in record { value = e; records_after = c.write_rows.ensures ∙ run-accepted _ _ _ (sym e ∙ c.if-answer-ne0.false) }
