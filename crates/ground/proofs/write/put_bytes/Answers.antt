-- `ground::write::put_bytes` meets its contract.
use mathlib.Core.Path.{◌≡◌}
use Prim.Native.Nat.{◌+◌, ◌-◌}
use native.Mathlib.Omega.{arith}
use lib.ListN.{length}
use Rattle.ground.proofs.Puts.{put-mid}
use Rattle.ground.proofs.write.put_bytes.Goals as goal

pub returns : goal.returns
returns c =
    let a = c.args in
    let e : a.at + length a.bs.now - a.at ≡ length a.bs.now = omega arith in
    rw (c.copy_from_slice.ensures.after, e) (put-mid a.s.now a.at a.bs.now c.requires)
