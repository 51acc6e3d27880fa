-- `layout::frame_bytes::put_hints` meets its contract.
use mathlib.Core.Path.{refl, sym, ◌∙◌}
use native.Mathlib.Omega.{arith}
use lib.ListN.{get_or}
use Rattle.frame.specs.Record.{no_hint}
use Rattle.layout.specs.FrameBytes.{hint_bytes, hints_bytes}
use Rattle.layout.proofs.Pieces.{fours_of, next_four, no_four}
use Rattle.layout.proofs.frame_bytes.put_hints.Goals as goal

pub loop-i-preserved : goal.loop-i-preserved
unfolding hint_bytes
loop-i-preserved c = let l = c.loop-i in next_four l.s _ (λ j. hint_bytes (get_or c.args.refs j no_hint)) 51 l.i 7 (omega arith) refl (c.put_hint.ensures) ∙ l.invariant

pub returns : goal.returns
unfolding hints_bytes hint_bytes fours_of
returns c = let l = c.loop-i in sym (no_four l.s _ (λ j. hint_bytes (get_or c.args.refs j no_hint)) l.i 7 (omega arith)) ∙ l.invariant
