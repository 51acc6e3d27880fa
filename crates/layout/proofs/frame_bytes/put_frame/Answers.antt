-- `layout::frame_bytes::put_frame` meets its contract.
use mathlib.Core.List.{[], ◌∷◌}
use Prim.Native.Nat.{◌%◌}
use Rattle.ground.specs.Little.{fours}
use Rattle.frame.specs.Mfmv.{slot_of}
use Rattle.frame.specs.hints.Selection.{as_selection}
use Rattle.frame.specs.Record.{frame_of}
use Rattle.frame.proofs.hints.Described.{accepted-limits, accepted-hints}
use Rattle.frame.proofs.hints.Selections.{slot-fits}
use Rattle.layout.specs.FrameBytes.{size_numbers, hint_bytes, hints_bytes, mfmvs_bytes, frame_bytes}
use Rattle.layout.proofs.Pieces.{as_one}
use borrow.Author.Rules.{rules}
use Rattle.layout.proofs.frame_bytes.put_frame.Goals as goal

pub select-c-requires : goal.select-c-requires
select-c-requires c = accepted-hints _ _ c.requires.1

pub sizes_for-requires : goal.sizes_for-requires
sizes_for-requires c = accepted-limits _ _ c.requires.1

pub ref_hints-requires : goal.ref_hints-requires
ref_hints-requires c = accepted-hints _ _ c.requires.1

pub put_slots-requires : goal.put_slots-requires
put_slots-requires c =
    let s = c in
    let e = c.select-c.ensures in
    record { in_bounds = (search rules, s.requires.2, s.requires.3, accepted-hints _ _ s.requires.1); by_index = λ i h. slot-fits s.args.d s.args.present i e h }

pub returns : goal.returns
unfolding frame_of slot_of as_selection frame_bytes size_numbers fours hints_bytes hint_bytes
returns c = let a = c.args in let f = frame_of a.d a.present in rw (c.put_slots.ensures, c.put_hints.ensures, c.ref_hints.ensures, c.put_flags.ensures, c.put_numbers.ensures, c.sizes_for.ensures, c.select-c.ensures) (as_one a.s.now 0 (fours (size_numbers f.sizes)) ((f.use_ref_frame_mvs ∷ f.temporal ∷ f.n_mfmvs % 256 ∷ []) ∷ hints_bytes f.refs ∷ mfmvs_bytes f.mfmvs ∷ []))
