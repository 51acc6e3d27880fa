-- `layout::frame_bytes::put_slots` meets its contract.
use native.Mathlib.Omega.{arith}
use mathlib.Core.List.{[], ◌∷◌}
use Rattle.frame.specs.Mfmv.{slot_in}
use Rattle.layout.specs.FrameBytes.{offsets_at, mfmv_bytes, mfmvs_bytes}
use Rattle.layout.proofs.Pieces.{as_one}
use borrow.Author.Rules.{rules}
use Rattle.layout.proofs.frame_bytes.put_slots.Goals as goal

pub put_slot-requires : goal.put_slot-requires
put_slot-requires c = let s = c in let p = s.requires in record { in_bounds = (search rules, p.in_bounds.1, p.in_bounds.2, p.in_bounds.3); i_bound = (omega arith, p.by_index 0 (omega arith)) }

pub put_slot-requires-2 : goal.put_slot-requires-2
put_slot-requires-2 c = let s = c in let p = s.requires in record { in_bounds = (search rules, p.in_bounds.1, p.in_bounds.2, p.in_bounds.3); i_bound = (omega arith, p.by_index 1 (omega arith)) }

pub put_slot-requires-3 : goal.put_slot-requires-3
put_slot-requires-3 c = let s = c in let p = s.requires in record { in_bounds = (search rules, p.in_bounds.1, p.in_bounds.2, p.in_bounds.3); i_bound = (omega arith, p.by_index 2 (omega arith)) }

pub returns : goal.returns
unfolding mfmvs_bytes mfmv_bytes offsets_at
returns c = let a = c.args in rw (c.put_slot-3.ensures, c.put_slot-2.ensures, c.put_slot.ensures) (as_one a.s.now 79 (mfmv_bytes (slot_in a.d a.c 0)) (mfmv_bytes (slot_in a.d a.c 1) ∷ mfmv_bytes (slot_in a.d a.c 2) ∷ []))
