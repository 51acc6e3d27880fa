-- `vector::hint::get_poc_diff` meets its contract.
use native.Mathlib.Omega.{arith}
use native.Mathlib.Nat.{mod-lt}
use mathlib.Core.Path.{◌≡◌, ◌∙◌}
use Prim.Native.Nat.{ℕ, ◌+◌, ◌-◌, ◌*◌, ◌%◌, ◌^◌, ◌<◌, ◌≤◌}
use lib.Pow.{pow_pos, pow_mono}
use mir.Syntax.{w16}
use Rattle.vector.specs.Hint.{distance}
use Rattle.ground.proofs.Bits.{kept}
use Rattle.vector.proofs.Hints.{shifted, ahead, behind}
use Rattle.vector.proofs.hint.get_poc_diff.Goals as goal
use Rattle.vector.proofs.hint.get_poc_diff.Goals.{Start}

-- what is known of 2 ^ bits past the first test
abbrev two : (c : Start) → ℕ
two c = (1 * 2 ^ c.args.bits) % 4294967296

abbrev d : (c : Start) → ℕ
d c = (c.args.a + two c - c.args.b) % two c

record Known (c : Start) : Type 0 where
  is : two c ≡ 2 ^ c.args.bits
  some : 0 < two c
  most : two c ≤ 256
  part : d c < two c

known : (c : Start) → Known c
known c =
    let e = shifted c.args.bits c.requires.0 in
    let p : 0 < two c = omega (arith, e, pow_pos c.args.bits) in
    record { is = e; some = p; most = omega (arith, e, pow_mono c.requires.0); part = mod-lt (c.args.a + two c - c.args.b) p }

pub returns-then-bits-eq0 : goal.returns-then-bits-eq0
unfolding distance
returns-then-bits-eq0 c = rw c.if-bits-eq0.true

pub overflow_add-d : goal.overflow_add-d
overflow_add-d c = let k = known (goal.at.overflow_add-d c).Start in omega arith

pub overflow_sub-d : goal.overflow_sub-d
overflow_sub-d c = let k = known (goal.at.overflow_sub-d c).Start in omega arith

pub with_sign-requires : goal.with_sign-requires
with_sign-requires c = let k = known (goal.at.with_sign-requires c).Start in omega arith

pub overflow_sub-whole : goal.overflow_sub-whole
overflow_sub-whole c = let k = known (goal.at.overflow_sub-whole c).Start in omega arith

pub with_sign-requires-else-d-whole : goal.with_sign-requires-else-d-whole
with_sign-requires-else-d-whole c = let k = known (goal.at.with_sign-requires-else-d-whole c).Start in omega arith

pub returns-then-d-whole : goal.returns-then-d-whole
returns-then-d-whole c =
    let s = (goal.at.returns-then-d-whole c).Start in
    kept w16 c.with_sign.type_inv
    (c.with_sign.ensures
    ∙ ahead s.args.bits s.args.a s.args.b (two (goal.at.returns-then-d-whole c).Start) c.if-bits-eq0.false (known (goal.at.returns-then-d-whole c).Start).is c.if-d-whole.true)

pub returns-else-d-whole : goal.returns-else-d-whole
returns-else-d-whole c =
    let s = (goal.at.returns-else-d-whole c).Start in
    kept w16 c.with_sign-else-d-whole.type_inv
    (c.with_sign-else-d-whole.ensures
    ∙ behind s.args.bits s.args.a s.args.b (two (goal.at.returns-else-d-whole c).Start) c.if-bits-eq0.false (known (goal.at.returns-else-d-whole c).Start).is c.if-d-whole.false)
