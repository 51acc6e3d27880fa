-- `ground::twos::write_half` meets its contract.
use mathlib.Core.Path.{◌≡◌}
use Prim.Native.Nat.{◌/◌, ◌%◌}
use native.Mathlib.Numerals.{add-one}
use native.Mathlib.Omega.{arith}
use mir.Syntax.{w16}
use mir.ValLaws.{of_z_fits}
use mir.Facts.{to_z-of_z}
use Rattle.ground.specs.Put.{put}
use Rattle.ground.specs.Twos.{bits16}
use Rattle.ground.proofs.twos.write_half.Goals as goal

pub returns : goal.returns
unfolding put
returns c =
    let n = bits16 c.args.c in
    let e : n / 256 % 256 ≡ n / 256 = omega (arith, (of_z_fits w16 c.args.c c.ranges.c).fits) in
    rw (c.to_le_bytes.ensures, to_z-of_z c.ranges.c, add-one, e)
