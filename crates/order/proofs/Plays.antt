-- A list of steps from step i on: the turns of the loop.
-- Assumes nothing.
use mathlib.Core.Path.{◌≡◌, refl, sym, ap, ◌∙◌}
use mathlib.Core.List.{List, [], ◌∷◌, ◌++◌}
use Prim.Native.Nat.{ℕ, zero, suc, ◌+◌, ◌≤◌, ◌<◌}
use native.Mathlib.Numerals.{add-one}
use native.Mathlib.Omega.{arith}
use lib.ListN.{length, get_or, drop}
use Rattle.ground.specs.Script.{run}
use Rattle.order.specs.declared.steps.turn.Turned.{Turned}
use Rattle.order.specs.steps.Turn.{turn_proj, turn_saved, turned as outcome}
use Rattle.order.specs.Desk.{Given, Desk, desk, handed_by, turn, plays}

next : (g : Given) (ks : List ℕ) (d : Desk) (i : ℕ) → i < length ks → plays g (drop i ks) d ≡ plays g (drop (suc i) ks) (turn g (get_or ks i 0) d)
next g [] d i h = absurd (omega arith)
next g (k ∷ ks) d zero h = refl
next g (k ∷ ks) d (suc i) h = next g ks d i (omega arith)

pub plays-on : (g : Given) (ks : List ℕ) (d : Desk) (i : ℕ) → i < length ks → plays g (drop i ks) d ≡ plays g (drop (i + 1) ks) (turn g (get_or ks i 0) d)
plays-on g ks d i h = next g ks d i h ∙ ap (λ (n : ℕ). plays g (drop n ks) (turn g (get_or ks i 0) d)) (sym (add-one i))

pub plays-end : (g : Given) (ks : List ℕ) (d : Desk) (i : ℕ) → length ks ≤ i → plays g (drop i ks) d ≡ d
plays-end g [] d zero h = refl
plays-end g [] d (suc i) h = refl
plays-end g (k ∷ ks) d zero h = absurd (omega arith)
plays-end g (k ∷ ks) d (suc i) h = plays-end g ks d i (omega arith)

-- one list behind another
pub plays-append : (g : Given) (ks ls : List ℕ) (d : Desk) → plays g (ks ++ ls) d ≡ plays g ls (plays g ks d)
plays-append g [] ls d = refl
plays-append g (k ∷ ks) ls d = plays-append g ks ls (turn g k d)

-- a step as its contract tells it
pub turned : (g : Given) (d : Desk) {k j : ℕ} {r : Turned} {p s : List ℕ} → k ≡ j
    → r ≡ outcome (handed_by g d) d.batch k
    → p ≡ run (turn_proj (handed_by g d) d.batch k) d.proj → s ≡ run (turn_saved (handed_by g d) d.batch k) d.saved
    → desk r.batch p s ≡ turn g j d
unfolding turn
turned g d e a b c = (λ i. record { batch = (a i).batch; proj = b i; saved = c i }) ∙ ap (λ (n : ℕ). turn g n d) e
