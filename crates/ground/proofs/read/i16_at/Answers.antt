-- `ground::read::i16_at` meets its contract.
use mathlib.Core.Path.{◌≡◌, ap, ◌∙◌}
use native.Mathlib.Omega.{arith}
use lib.IntN.{ℤ, pos, negsuc}
use mir.Syntax.{w16, w32}
use mir.Val.{to_z, of_z}
use Rattle.std.specs.Int.{int_max, int_min}
use Rattle.std.proofs.lemmas.Int.{ints}
use Rattle.ground.specs.Sign.{clip3}
use Rattle.ground.specs.Little.{held16}
use Rattle.ground.proofs.Bits.{same}
use Rattle.ground.proofs.Signs.{clip3-clamp}
use Rattle.ground.proofs.read.i16_at.Goals as goal

pub returns : goal.returns
unfolding held16
returns c =
    let r = c.clamp.result in
    let z = c.cast_signed.result in
    let low = c.clamp.ensures.lower_bound in
    let high = c.clamp.ensures.upper_bound in
    let e : to_z w16 (of_z w16 (to_z w32 (of_z w32 r))) ≡ r = omega (arith, ints) in
    e ∙ c.clamp.ensures.value
    ∙ ap (λ (x : ℤ). int_max (negsuc 32767) (int_min x (pos 32767))) (same w32 z c.cast_signed.type_inv)
    ∙ clip3-clamp 32767 32767 z
    ∙ ap (clip3 (negsuc 32767) (pos 32767)) (c.cast_signed.ensures ∙ ap (to_z w32) c.u32_at.ensures)
