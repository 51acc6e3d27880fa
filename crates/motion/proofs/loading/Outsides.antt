-- Nothing outside its window changes by a load, and it goes by its sources alone.
-- Assumes nothing.
use mathlib.Core.Path.{◌≡◌}
use mathlib.Core.Bool.{Bool, true, false}
use mathlib.Core.List.{List}
use Prim.Native.Nat.{ℕ, ◌+◌, ◌-◌, ◌/◌, ◌%◌, ◌<◌}
use native.Mathlib.Nat.{mod-lt}
use native.Mathlib.Omega.{arith}
use lib.Dec.{eqb}
use lib.ListN.{length, get_or}
use Rattle.ground.specs.Pick.{pick}
use Rattle.ground.specs.Script.{run, Avoids}
use Rattle.ground.specs.Span.{span}
use Rattle.ground.proofs.Scripts.{run-outside, run-local}
use Rattle.ground.proofs.Spans as spans
use Rattle.motion.specs.declared.saving.area.Window.{Window}
use Rattle.motion.specs.declared.loading.used.Uses.{Uses}
use Rattle.motion.specs.landing.Row.{clear_row}
use Rattle.motion.specs.loading.Fields.{Sources}
use Rattle.motion.specs.loading.Load.{ref_row, whole_script, rows_of, pass_script, step_script}
use Rattle.motion.specs.loading.Used.{use_at}
use Rattle.motion.specs.landing.Targets.{Outside}
use Rattle.motion.proofs.landing.Targeted.{row-avoids, clear-avoids}

-- a step, and a whole load
pub step-outside : (src : Sources) (w : Window) (us : Uses) (k i : ℕ) → w.top.0 < w.bottom.0 → Outside w i → (l : List ℕ)
    → get_or (run (step_script src w us k) l) i 0 ≡ get_or l i 0
unfolding step_script pass_script ref_row rows_of
step-outside src w us k i some out l = run-outside (step_script src w us k) l i 0 (by (eqb (k / (w.bottom.0 - w.top.0)) 0))
  where
    under : w.top.0 + k % (w.bottom.0 - w.top.0) < w.bottom.0
    under = let r = mod-lt k {m = w.bottom.0 - w.top.0} (omega arith) in omega arith

    by : (b : Bool) → Avoids i (pick b (clear_row w (w.top.0 + k % (w.bottom.0 - w.top.0))) (ref_row src w us (k / (w.bottom.0 - w.top.0) - 1) (w.top.0 + k % (w.bottom.0 - w.top.0))))
    by true = clear-avoids w (w.top.0 + k % (w.bottom.0 - w.top.0)) i out (omega arith) under
    by false = row-avoids (src (k / (w.bottom.0 - w.top.0) - 1) (w.top.0 + k % (w.bottom.0 - w.top.0))) w _ _ i out

pub load-outside : (src : Sources) (w : Window) (us : Uses) (i : ℕ) → Outside w i → (l : List ℕ) → get_or (run (whole_script src w us) l) i 0 ≡ get_or l i 0
unfolding whole_script ref_row
load-outside src w us i out l =
    run-outside (whole_script src w us) l i 0
    (spans.avoids-append i (span (clear_row w) w.top.0 w.bottom.0) _ (spans.avoids (clear_row w) i w.top.0 w.bottom.0 (λ y a b. clear-avoids w y i out a b))
    (spans.avoids (λ n. span (ref_row src w us n) w.top.0 w.bottom.0) i 0 us.n
    (λ n _ _. spans.avoids (ref_row src w us n) i w.top.0 w.bottom.0 (λ y _ _. row-avoids (src n y) w (use_at us n).motion y i out))))

-- A LOAD GOES BY ITS SOURCES ALONE: a byte afterwards goes by that byte before, and by no other of the projection
pub load-local : (src : Sources) (w : Window) (us : Uses) (l k : List ℕ) (i : ℕ) → length l ≡ length k → get_or l i 0 ≡ get_or k i 0
    → get_or (run (whole_script src w us) l) i 0 ≡ get_or (run (whole_script src w us) k) i 0
load-local src w us l k i n e = run-local (whole_script src w us) l k i 0 n e
