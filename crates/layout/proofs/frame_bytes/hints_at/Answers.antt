-- `layout::frame_bytes::hints_at` meets its contract.
use mathlib.Core.Path.{refl, ◌∙◌}
use Rattle.std.proofs.Common.{rules}
use lib.ListN.{get_or}
use Rattle.ground.proofs.Tabs.{tab-all}
use Rattle.frame.specs.Record.{no_hint}
use Rattle.layout.specs.FrameBytes.{ref_hints_at}
use Rattle.layout.proofs.Ranges.{from-fn}
use Rattle.layout.proofs.frame_bytes.hints_at.Goals as goal

pub returns : goal.returns
unfolding ref_hints_at
returns c =
    let l = c.args.s.now in
    from-fn _ no_hint (λ i. get_or (ref_hints_at l) i no_hint) 7 c.from_fn.ensures.items (λ j y q k. search rules) ∙ tab-all no_hint (ref_hints_at l) 7 refl
