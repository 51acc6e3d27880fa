-- `frame::mfmv::ref2ref` meets its contract.
use native.Mathlib.Omega.{arith}
use Prim.Native.Nat.{◌+◌, ◌*◌, ◌^◌}
use Rattle.frame.proofs.hints.Described.{under_at}
use Rattle.frame.proofs.mfmv.ref2ref.Goals as goal

pub get_poc_diff-requires : goal.get_poc_diff-requires
get_poc_diff-requires c = let s = c in let k = under_at s.args.held.now (2 ^ s.args.bits) (7 * s.args.r + s.args.m) s.requires.2 (omega arith) in (s.requires.0, s.requires.1, omega (arith, c.held_in.ensures))
