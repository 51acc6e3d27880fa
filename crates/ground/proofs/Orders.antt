-- Jobs that never wait, in any order: `any_order` (after any steps), `all_finished` and `all_named` (all finished equals all run whole in list order),
-- `no-matter` (two lists that take each job equally far end alike). Assumes nothing.
use mathlib.Core.Path.{◌≡◌, refl, sym, ap, ◌∙◌, subst}
use mathlib.Core.Logic.{◌⊎◌, inl, inr, ◌≢◌}
use mathlib.Core.Bool.{Bool, true, false}
use mathlib.Core.List.{List, [], ◌∷◌}
use Prim.Native.Nat.{ℕ, zero, suc, ◌+◌, ◌≤◌, ◌<◌, min}
use native.Mathlib.Omega.{arith}
use native.Mathlib.Decide.{ℕ_discrete}
use lib.Dec.{ltb, eqb}
use borrow.Author.Tests.{ltb-true, ltb-false, eq-eqb, ne_eqb}
use Rattle.ground.specs.Pick.{pick}
use Rattle.ground.specs.Window.{Plan, St, After, Laws, Free, Stepped, act, step, play, fresh, named, rows, wholes}
use Rattle.ground.proofs.Windows.{Moves, Passed, pass, passed, bump-same, bump-other, kind-moved, kind-finished, step-cases, after, after-fresh, after-pass, pass-mem, mem-same, state-same}

wholes-passed : (P : Plan) (n : ℕ) (m : P.Mem) → passed P (λ _. true) n m ≡ wholes P n m
wholes-passed P zero m = refl
wholes-passed P (suc n) m = ap (rows P n (P.cnt n)) (wholes-passed P n m)

-- A step leaves the other jobs' counts.
pub done-other : (P : Plan) (j i : ℕ) (s : St P) → j ≢ i → (step P i s).done j ≡ s.done j
done-other P j i s q = go (step-cases P i s)
  where
    go : Moves P i s.done ⊎ (step P i s ≡ s) → (step P i s).done j ≡ s.done j
    go (inl m) = ap (λ k. (act P k i s).done j) m.is ∙ bump-other i j s.done q
    go (inr e) = ap (λ t. t.done j) e

module _ (P : Plan) (m₀ : P.Mem) (F : Free P m₀) where
  pub rows_ok : (j k : ℕ) (m : P.Mem) → j < P.jobs → k ≤ P.cnt j → P.Ok m → P.Ok (rows P j k m)
  rows_ok j zero m h l o = o
  rows_ok j (suc k) m h l o = F.shape.keeps j k (rows P j k m) h l (rows_ok j k m h (omega arith) o)

  pub laws : Laws P m₀ (λ _. m₀)
  laws = record {
    shape = F.shape;
    own = λ j s c a h l e w. F.own j (s.done j) s.mem (rows P j (s.done j) m₀) h l a.ok (rows_ok j (s.done j) m₀ h (omega arith) F.shape.ok₀)
        (λ x v. a.window j x h v) c w;
    begins = λ j c h w. refl;
  }

  done-same : (j : ℕ) (s : St P) → j < P.jobs → s.done j ≤ P.cnt j → (step P j s).done j ≡ min (suc (s.done j)) (P.cnt j)
  done-same j s h l = go (ltb (s.done j) (P.cnt j)) refl
    where
      go : (b : Bool) → ltb (s.done j) (P.cnt j) ≡ b → (step P j s).done j ≡ min (suc (s.done j)) (P.cnt j)
      go true e = let g : s.done j < P.cnt j = ltb-true (s.done j) (P.cnt j) e in
          ap (λ k. (act P k j s).done j) (kind-moved P j s.done h g (F.moves j s.done)) ∙ bump-same j s.done ∙ omega arith
      go false e = let g : P.cnt j ≤ s.done j = ltb-false (s.done j) (P.cnt j) e in
          ap (λ k. (act P k j s).done j) (kind-finished P j s.done h g) ∙ omega arith

  count-run : (j : ℕ) (r : List ℕ) (s : St P) → j < P.jobs → s.done j ≤ P.cnt j → (play P r s).done j ≡ min (s.done j + named j r) (P.cnt j)
  count-run j [] s h l = omega arith
  count-run j (i ∷ r) s h l = go (ℕ_discrete j i) (λ g. count-run j r (step P i s) h g)
    where
      go : Dec (j ≡ i) → ((step P i s).done j ≤ P.cnt j → (play P r (step P i s)).done j ≡ min ((step P i s).done j + named j r) (P.cnt j))
          → (play P r (step P i s)).done j ≡ min (s.done j + pick (eqb j i) (suc (named j r)) (named j r)) (P.cnt j)
      go (yes q) ih =
          let e : (step P i s).done j ≡ min (suc (s.done j)) (P.cnt j) = subst (λ x. (step P x s).done j ≡ min (suc (s.done j)) (P.cnt j)) q (done-same j s h l) in
          rw (eq-eqb j i q) (ih (omega arith) ∙ omega arith)
      go (no q) ih =
          let e : (step P i s).done j ≡ s.done j = done-other P j i s q in
          rw (ne_eqb j i q) (ih (omega arith) ∙ omega arith)

  -- T1
  pub any_order : (r : List ℕ) → Stepped P m₀ r (play P r (fresh P m₀))
  any_order r = record {
    count = count;
    window = λ j c h w. a.window j c h w ∙ ap (λ k. P.at (rows P j k m₀) c) (count j h);
    rest = a.rest;
    ok = a.ok;
  }
    where
      a : After P m₀ (λ _. m₀) (play P r (fresh P m₀))
      a = after P m₀ (λ _. m₀) laws r

      count : (j : ℕ) → j < P.jobs → (play P r (fresh P m₀)).done j ≡ min (named j r) (P.cnt j)
      count j h = count-run j r (fresh P m₀) h (omega arith) ∙ omega arith

  -- T2
  pub all_finished : (r : List ℕ) → ((j : ℕ) → j < P.jobs → (play P r (fresh P m₀)).done j ≡ P.cnt j)
      → (play P r (fresh P m₀)).mem ≡ wholes P P.jobs m₀
  all_finished r e =
      mem-same P m₀ (λ _. m₀) laws (play P r (fresh P m₀)) (pass P (λ _. true) P.jobs (fresh P m₀)) (after P m₀ (λ _. m₀) laws r) p.holds
      (λ j h. e j h ∙ sym (p.whole j h refl))
      ∙ pass-mem P (λ _. true) P.jobs (fresh P m₀) ∙ wholes-passed P P.jobs m₀
    where
      p : Passed P m₀ (λ _. m₀) (λ _. true) P.jobs (fresh P m₀) (pass P (λ _. true) P.jobs (fresh P m₀))
      p = after-pass P m₀ (λ _. m₀) laws (λ _. true) (fresh P m₀) (after-fresh P m₀ (λ _. m₀) laws) (λ j h g. refl) (λ j d h g k. F.moves j d) P.jobs (omega arith)

  finished-by : (r : List ℕ) → ((j : ℕ) → j < P.jobs → P.cnt j ≤ named j r) → (j : ℕ) → j < P.jobs → (play P r (fresh P m₀)).done j ≡ P.cnt j
  finished-by r e j h = (any_order r).count j h ∙ omega (arith, e j h)

  -- T2, by the requests
  pub all_named : (r : List ℕ) → ((j : ℕ) → j < P.jobs → P.cnt j ≤ named j r) → (play P r (fresh P m₀)).mem ≡ wholes P P.jobs m₀
  all_named r e = all_finished r (finished-by r e)

  -- T3
  pub no-matter : (q r : List ℕ) → ((j : ℕ) → j < P.jobs → min (named j q) (P.cnt j) ≡ min (named j r) (P.cnt j))
      → play P q (fresh P m₀) ≡ play P r (fresh P m₀)
  no-matter q r e = state-same P m₀ (λ _. m₀) laws (play P q (fresh P m₀)) (play P r (fresh P m₀)) (after P m₀ (λ _. m₀) laws q) (after P m₀ (λ _. m₀) laws r)
      (λ j h. (any_order q).count j h ∙ e j h ∙ sym ((any_order r).count j h))
