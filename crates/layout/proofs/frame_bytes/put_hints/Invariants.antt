-- `layout::frame_bytes::put_hints` meets its contract.
use mathlib.Core.Path.{◌≡◌}
use Prim.Native.Nat.{◌+◌, ◌-◌, ◌*◌}
use lib.ListN.{get_or}
use Rattle.ground.specs.Put.{put}
use Rattle.frame.specs.Record.{no_hint}
use Rattle.layout.specs.FrameBytes.{hint_bytes}
use Rattle.layout.proofs.Pieces.{fours_of}
use Rattle.layout.proofs.frame_bytes.put_hints.Given as goal

abbrev pub invariant-loop-i : goal.invariant-loop-i
invariant-loop-i l = put l.s (51 + 4 * l.i) (fours_of (λ j. hint_bytes (get_or l.h-items j no_hint)) l.i (7 - l.i)) ≡ put l.initial.s 51 (fours_of (λ j. hint_bytes (get_or l.h-items j no_hint)) 0 7)
