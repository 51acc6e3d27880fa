-- What playing a capture on lent bytes answers and leaves, by the tests that were made on the way.
-- Assumes nothing.
use mathlib.Core.Path.{◌≡◌, refl, sym, ap, ◌∙◌}
use mathlib.Core.Bool.{true, false}
use mathlib.Core.List.{List}
use Prim.Native.Nat.{ℕ, ◌<◌}
use native.Mathlib.Omega.{arith}
use lib.ListN.{length, get_or}
use Rattle.ground.specs.Put.{put}
use Rattle.ground.specs.Script.{run}
use Rattle.ground.specs.Tab.{tab}
use Rattle.ground.proofs.Answers.{run-refused}
use Rattle.ground.proofs.Tabs.{tab-all, tab-cong}
use Rattle.jobs.specs.declared.job.record.Batch.{Batch}
use Rattle.order.specs.Desk.{Desk, desk}
use Rattle.capture.specs.player.Played.{played_answer, played_desk}
use Rattle.jaskkovir.specs.Captured.{short_steps, shown_answer, shown_desk, steps_of, shown_steps}
use Rattle.jaskkovir.proofs.Lent.{written}

-- a list of n elements that are by a rule
pub tab-is : {A : Type 0} (d : A) (f : ℕ → A) (n : ℕ) (xs : List A) → length xs ≡ n → ((k : ℕ) → k < n → get_or xs k d ≡ f k) → xs ≡ tab f 0 n
tab-is d f n xs e h =
    sym (tab-all d xs n e) ∙ tab-cong (λ i. get_or xs i d) f 0 n (λ k a b. h k (omega arith))

module _ (file proj saved l : List ℕ) where
  -- the four promises: l is the part lent for the steps
  abbrev Shown : ℕ → (proj saved steps : List ℕ) → Type 0
  Shown a p s t =
      (a ≡ shown_answer file proj saved (length l))
      × ((p ≡ (shown_desk file proj saved (length l)).proj) × ((s ≡ (shown_desk file proj saved (length l)).saved) × (t ≡ run (shown_steps file proj saved (length l)) l)))

  pub too_short : short_steps (length l) ≡ true → Shown 4 proj saved l
  unfolding shown_answer shown_desk shown_steps run
  too_short e = rw e (refl, (refl, (refl, refl)))

  module _ (e : short_steps (length l) ≡ false) {a : ℕ} {b : Batch} {p s : List ℕ} (q : a ≡ played_answer file proj saved) (d : desk b p s ≡ played_desk file proj saved) where
    pub refused : (a ≡ 0 → ⊥) → Shown a p s l
    unfolding shown_answer shown_desk shown_steps
    refused h =
        rw e (q, (ap (λ (x : Desk). x.proj) d, (ap (λ (x : Desk). x.saved) d, run-refused _ _ l (λ z. h (q ∙ z)))))

    pub shown : a ≡ 0 → {t : List ℕ} → t ≡ put l 0 (steps_of b) → Shown a p s t
    unfolding shown_answer shown_desk shown_steps
    shown z w =
        rw e
        (q, (ap (λ (x : Desk). x.proj) d, (ap (λ (x : Desk). x.saved) d, written _ _ l (sym q ∙ z) (w ∙ ap (λ (x : Desk). put l 0 (steps_of x.batch)) d))))
