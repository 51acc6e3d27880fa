-- `capture::player::play::play_all` meets its contract.
use mathlib.Core.Path.{◌≡◌, refl, ap, ◌∙◌}
use Prim.Native.Nat.{ℕ}
use native.Mathlib.Omega.{arith}
use Rattle.order.specs.Desk.{given_by, desk, plays}
use Rattle.capture.specs.player.Played.{in_order}
use Rattle.capture.proofs.player.Orders.{one_more}
use Rattle.capture.proofs.player.play.play_all.Goals as goal

pub loop-k-preserved : goal.loop-k-preserved
loop-k-preserved c =
    let l = c.loop-k in
    let a = c.args in
    one_more (given_by a.inputs.now) (desk a.batch a.proj.now a.saved.now) l.k refl l.invariant c.play-on.ensures

pub returns : goal.returns
returns c =
    let l = c.loop-k in
    let a = c.args in
    let e : l.k ≡ a.batch.n = omega arith in
    l.invariant ∙ ap (λ (n : ℕ). plays (given_by a.inputs.now) (in_order n) (desk a.batch a.proj.now a.saved.now)) e
