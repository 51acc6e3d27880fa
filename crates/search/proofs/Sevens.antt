-- An array of seven that a closure fills: each element is what the closure gives for its index.
-- Assumes nothing.
use mathlib.Core.Path.{◌≡◌, refl, sym, ◌∙◌}
use mathlib.Core.List.{List}
use Prim.Native.Nat.{ℕ, zero, suc, ◌+◌, ◌≤◌, ◌<◌}
use native.Mathlib.Omega.{arith}
use lib.ListN.{get_or}
use lib.Seq.{ext_get_or}
use Rattle.std.specs.Fn.{Called, Mut}
use Rattle.std.specs.Array.{IsFromFnResultFrom, IsFromFnResult}
use Rattle.ground.proofs.Diffs.{Which, more, less, which}
use Rattle.frame.specs.hints.Distances.{seven}

at-seven : (h : ℕ → ℕ) (k : ℕ) → k < 7 → get_or (seven h) k 0 ≡ h k
at-seven h zero l = refl
at-seven h (suc zero) l = refl
at-seven h (suc (suc zero)) l = refl
at-seven h (suc (suc (suc zero))) l = refl
at-seven h (suc (suc (suc (suc zero)))) l = refl
at-seven h (suc (suc (suc (suc (suc zero))))) l = refl
at-seven h (suc (suc (suc (suc (suc (suc zero)))))) l = refl
at-seven h (suc (suc (suc (suc (suc (suc (suc k))))))) l = absurd (omega arith)

-- P says what the closure has captured, and h what it gives
module _ {F : Type 0} (g : Mut F (ℕ × Unit {0}) ℕ) (P : F → Type 0) (h : ℕ → ℕ)
    (each : (f : F) (i y : ℕ) (q : F) → i < 7 → P f → Called g f (i, tt) y q → (y ≡ h i) × P q) where
  filled_from : (ys : List ℕ) (k i j : ℕ) (f : F) → i + k ≤ 7 → P f → IsFromFnResultFrom g f ys i k → i ≤ j → j < i + k → get_or ys j 0 ≡ h j
  filled_from ys zero i j f b p r low high = absurd (omega arith)
  filled_from ys (suc k) i j f b p (q, y, at, called, rest) low high =
      let t = each f i y q (omega arith) p called in
      by (which i j) (λ l. filled_from ys k (i + 1) j q (omega arith) t.1 rest l (omega arith))
    where
      by : Which i j → (i + 1 ≤ j → get_or ys j 0 ≡ h j) → get_or ys j 0 ≡ h j
      by (less l) later = later (omega arith)
      by (more l) later = let e : j ≡ i = omega arith in rw e (at.1 0 ∙ (each f i y q (omega arith) p called).0)

  pub filled : {ys : List ℕ} {f : F} → P f → IsFromFnResult g f ys 7 → ys ≡ seven h
  filled {ys} {f} p r =
      ext_get_or 0 ys (seven h) r.long
      (λ k b. let l : k < 7 = omega (arith, r.long) in filled_from ys 7 0 k f (omega arith) p r.each (omega arith) l ∙ sym (at-seven h k l))
