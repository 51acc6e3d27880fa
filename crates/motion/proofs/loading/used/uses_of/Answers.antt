-- `motion::loading::used::uses_of` meets its contract.
use Rattle.motion.specs.declared.loading.used.Uses.{Uses}
use Rattle.motion.proofs.loading.Usings.{used-on, used-most}
use Rattle.motion.specs.loading.Used.{used_of, used, held_as}
use Prim.Native.Nat.{ℕ, min}
use native.Mathlib.Omega.{arith}
use mathlib.Core.Path.{◌≡◌, ap, ◌∙◌}
use Rattle.motion.proofs.loading.used.uses_of.Goals as goal

pub loop-i-init : goal.loop-i-init
unfolding used_of
loop-i-init c = c.no_uses-us.ensures

pub take_in-us-requires : goal.take_in-us-requires
unfolding held_as
take_in-us-requires c =
    let l = c.loop-i in
    let e = ap (λ (u : Uses). u.n) l.invariant in
    omega (arith, e, c.min-n.ensures, used-most c.args.f.mfmvs l.i)

pub loop-i-preserved : goal.loop-i-preserved
loop-i-preserved c =
    let l = c.loop-i in
    used-on _ _ l.invariant (omega (arith, c.min-n.ensures, used-most c.args.f.mfmvs l.i)) c.take_in-us.ensures

pub returns : goal.returns
unfolding used
returns c =
    let l = c.loop-i in
    let f = c.args.f in
    let k : l.i ≡ min 3 f.n_mfmvs = omega (arith, c.min-n.ensures) in
    l.invariant ∙ ap (λ (n : ℕ). held_as (used_of f.mfmvs n)) k
