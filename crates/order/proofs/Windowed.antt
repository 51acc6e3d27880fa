-- A window's cells can be told from the others, and a byte outside is left alone by the job's rows.
-- Assumes nothing.
use mathlib.Core.Path.{◌≡◌, sym, ap, ◌∙◌}
use mathlib.Core.Logic.{◌⊎◌}
use mathlib.Core.List.{List}
use Prim.Native.Nat.{ℕ, ◌+◌, ◌-◌, ◌*◌, ◌/◌, ◌%◌, ◌≤◌, ◌<◌}
use native.Mathlib.Decide.{ℕ_discrete, dec_le, dec_lt}
use native.Mathlib.Nat.{div-add-mod, mul_comm}
use native.Mathlib.Omega.{arith}
use Rattle.ground.proofs.Products.{row_of, col-of}
use Rattle.ground.specs.Script.{Patch, Inside, Avoids}
use Rattle.ground.proofs.Scripts.{inside-avoids}
use Rattle.motion.specs.declared.saving.area.Strip.{Strip}
use Rattle.motion.specs.declared.saving.area.Window.{Window}
use Rattle.motion.specs.landing.Lands.{spot}
use Rattle.motion.specs.landing.Targets.{Outside}
use Rattle.jobs.specs.job.Share.{LoadCell, SaveCell}
use Rattle.jobs.proofs.job.Shared.{Framed, Walked, place}

-- the row that a cell of a load's window comes from: of at most 16 rows there is one for each number modulo 16
abbrev row_from : Window → ℕ → ℕ
row_from w p = w.top.0 + (p % 16 + 16 - w.top.0 % 16) % 16

split : (c s : ℕ) → 0 < s → c ≡ c / s * s + c % s
split c s h = sym (div-add-mod c s) ∙ ap (λ (n : ℕ). n + c % s) (mul_comm s (c / s))

pub load? : (s : ℕ) (w : Window) (g : Framed s w) → 0 < s → (c : ℕ) → Dec (LoadCell w c)
load? s w g some c = by (ℕ_discrete (c / s / 16) g.part) (dec_lt (row_from w (c / s)) w.bottom.0) (dec_le w.left.0 (c % s)) (dec_lt (c % s) w.right.0)
  where
    -- the row and the column of a cell that is in the window
    at_row : (x : LoadCell w c) → c / s ≡ 16 * g.part + x.row % 16
    at_row x = ap (λ (n : ℕ). n / s) (x.is ∙ place s w g x.row x.col) ∙ row_of (16 * g.part + x.row % 16) s x.col (omega (arith, x.right, g.columns))

    at-col : (x : LoadCell w c) → c % s ≡ x.col
    at-col x = ap (λ (n : ℕ). n % s) (x.is ∙ place s w g x.row x.col) ∙ col-of (16 * g.part + x.row % 16) s x.col (omega (arith, x.right, g.columns))

    the_row : (x : LoadCell w c) → row_from w (c / s) ≡ x.row
    the_row x = omega (arith, at_row x, x.from, x.to, g.rows)

    by : Dec (c / s / 16 ≡ g.part) → Dec (row_from w (c / s) < w.bottom.0) → Dec (w.left.0 ≤ c % s) → Dec (c % s < w.right.0) → Dec (LoadCell w c)
    by (yes e) (yes t) (yes l) (yes r) =
        let k : 16 * g.part + row_from w (c / s) % 16 ≡ c / s = omega arith in
        yes
        (record {
          row = row_from w (c / s);
          col = c % s;
          from = omega arith;
          to = t;
          left = l;
          right = r;
          is = split c s some ∙ ap (λ (n : ℕ). n * s + c % s) (sym k) ∙ sym (place s w g (row_from w (c / s)) (c % s));
        })
    by (no e) t l r = no (λ x. e (omega (arith, at_row x)))
    by (yes e) (no t) l r = no (λ x. t (omega (arith, the_row x, x.to)))
    by (yes e) (yes t) (no l) r = no (λ x. l (omega (arith, at-col x, x.left)))
    by (yes e) (yes t) (yes l) (no r) = no (λ x. r (omega (arith, at-col x, x.right)))

pub save? : (s : ℕ) (w : Strip) → Walked s w → 0 < s → (c : ℕ) → Dec (SaveCell w c)
save? s w g some c = by (dec_le w.top.0 (c / s)) (dec_lt (c / s) w.bottom.0) (dec_le w.left.0 (c % s)) (dec_lt (c % s) w.limit.0)
  where
    is : (x : SaveCell w c) → c ≡ x.row * s + x.col
    is x = x.is ∙ ap (λ (n : ℕ). x.row * n + x.col) g.stride

    at_row : (x : SaveCell w c) → c / s ≡ x.row
    at_row x = ap (λ (n : ℕ). n / s) (is x) ∙ row_of x.row s x.col (omega (arith, x.right, g.columns))

    at-col : (x : SaveCell w c) → c % s ≡ x.col
    at-col x = ap (λ (n : ℕ). n % s) (is x) ∙ col-of x.row s x.col (omega (arith, x.right, g.columns))

    by : Dec (w.top.0 ≤ c / s) → Dec (c / s < w.bottom.0) → Dec (w.left.0 ≤ c % s) → Dec (c % s < w.limit.0) → Dec (SaveCell w c)
    by (yes a) (yes b) (yes l) (yes r) =
        yes
        (record {
          row = c / s;
          col = c % s;
          from = a;
          to = b;
          left = l;
          right = r;
          is = split c s some ∙ ap (λ (n : ℕ). c / s * n + c % s) (sym g.stride);
        })
    by (no a) b l r = no (λ x. a (omega (arith, at_row x, x.from)))
    by (yes a) (no b) l r = no (λ x. b (omega (arith, at_row x, x.to)))
    by (yes a) (yes b) (no l) r = no (λ x. l (omega (arith, at-col x, x.left)))
    by (yes a) (yes b) (yes l) (no r) = no (λ x. r (omega (arith, at-col x, x.right)))

-- a byte of no cell of a load's window lies outside of it
pub load-outside : (w : Window) (i : ℕ) → ¬ LoadCell w (i / 5) → Outside w i
unfolding Outside
load-outside w i n r q a b c d = by (dec_lt i (5 * spot w r q)) (dec_lt i (5 * spot w r q + 5))
  where
    by : Dec (i < 5 * spot w r q) → Dec (i < 5 * spot w r q + 5) → (i < 5 * spot w r q) ⊎ (5 * spot w r q + 5 ≤ i)
    by (yes l) m = ◌⊎◌.inl l
    by (no l) (no m) = ◌⊎◌.inr (omega arith)
    by (no l) (yes m) = absurd (n (record { row = r; col = q; from = a; to = b; left = c; right = d; is = omega arith }))

-- and one of no cell of a save's window is avoided by what lies in row y's columns
pub save-avoids : (w : Strip) (i y : ℕ) (ps : List Patch) → ¬ SaveCell w (i / 5) → w.top.0 ≤ y → y < w.bottom.0
    → Inside (5 * (y * w.stride.0 + w.left.0)) (5 * (y * w.stride.0 + w.limit.0)) ps → Avoids i ps
save-avoids w i y ps n a b h =
    inside-avoids (5 * (y * w.stride.0 + w.left.0)) (5 * (y * w.stride.0 + w.limit.0)) i ps h
    (by (dec_lt i (5 * (y * w.stride.0 + w.left.0))) (dec_lt i (5 * (y * w.stride.0 + w.limit.0))))
  where
    by : Dec (i < 5 * (y * w.stride.0 + w.left.0)) → Dec (i < 5 * (y * w.stride.0 + w.limit.0)) → (i < 5 * (y * w.stride.0 + w.left.0)) ⊎ (5 * (y * w.stride.0 + w.limit.0) ≤ i)
    by (yes l) m = ◌⊎◌.inl l
    by (no l) (no m) = ◌⊎◌.inr (omega arith)
    by (no l) (yes m) =
        absurd (n (record { row = y; col = i / 5 - y * w.stride.0; from = a; to = b; left = omega arith; right = omega arith; is = omega arith }))
