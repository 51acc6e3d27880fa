-- `layout::frame_bytes::put_flags` meets its contract.
use native.Mathlib.Omega.{arith}
use lib.ListN.{length-set}
use mathlib.Core.Path.{◌∙◌}
use Rattle.frame.proofs.hints.Flags.{flag-is}
use Rattle.ground.specs.Put.{put}
use Rattle.layout.proofs.frame_bytes.put_flags.Goals as goal

pub bounds-s-49 : goal.bounds-s-49
bounds-s-49 c = simp length-set (omega arith)

pub bounds-s-50 : goal.bounds-s-50
bounds-s-50 c = simp length-set (omega arith)

pub returns : goal.returns
unfolding put
returns c = rw (c.from.ensures ∙ flag-is _)
