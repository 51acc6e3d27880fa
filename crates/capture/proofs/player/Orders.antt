-- Jobs played one behind the other.
-- Assumes nothing.
use mathlib.Core.Path.{◌≡◌, sym, ap, ◌∙◌}
use Prim.Native.Nat.{ℕ, ◌+◌}
use native.Mathlib.Numerals.{add-one}
use lib.ListN.{replicate}
use Rattle.order.specs.Desk.{Given, Desk, plays}
use Rattle.order.proofs.Plays.{plays-append}
use Rattle.capture.specs.player.Played.{in_order}

-- one job more; its steps name it
pub one_more : (g : Given) (d : Desk) (k : ℕ) {name : ℕ} {before after : Desk} → name ≡ k
    → before ≡ plays g (in_order k) d → after ≡ plays g (replicate 64 name) before → after ≡ plays g (in_order (k + 1)) d
one_more g d k {name} {before} {after} e p q =
    q
    ∙ ap (λ (n : ℕ). plays g (replicate 64 n) before) e
    ∙ ap (plays g (replicate 64 k)) p
    ∙ sym (plays-append g (in_order k) (replicate 64 k) d)
    ∙ ap (λ (n : ℕ). plays g (in_order n) d) (sym (add-one k))
