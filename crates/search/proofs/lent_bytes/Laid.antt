-- A search's answer over lent bytes: what the calls leave is the result's script, and a refusal leaves all as it was lent.
-- Assumes nothing.
use mathlib.Core.Path.{◌≡◌, refl, sym, ap, ap₂, ◌∙◌}
use mathlib.Core.Bool.{Bool, true, false}
use mathlib.Core.List.{List, append-nil}
use Prim.Native.Nat.{ℕ}
use lib.ListN.{length, set}
use Rattle.ground.specs.Put.{put}
use Rattle.ground.specs.Script.{Patch, run}
use Rattle.ground.proofs.Scripts.{run-append}
use Rattle.stack.specs.Code.Found.{Found, live}
use Rattle.search.specs.declared.find.Findings.{Findings}
use Rattle.search.specs.Find.{SearchOutcome}
use Rattle.search.specs.Code.Find.{finding}
use Rattle.search.proofs.Finds.{is-refused, is-got}
use Rattle.search.specs.lent_bytes.Store.{candidates_script, fills_script}
use Rattle.search.specs.lent_bytes.Whole.{answer_in, stack_script, found_script}

module _ (r : Findings) (q : Found) (z : r.answer ≡ 0) (compound : Bool) (s : List ℕ) {t : List ℕ} (e : t ≡ run (candidates_script compound (live q)) s) where
  pub pairs-laid : compound ≡ true → t ≡ run (stack_script compound (finding r q)) s
  unfolding stack_script
  pairs-laid b = e ∙ rw (is-got r q z, b) (sym (ap (λ (p : List Patch). run p s) (append-nil (candidates_script true (live q)))))

  pub singles-laid : compound ≡ false → length (live q) ≡ q.count → {n : ℕ} → n ≡ q.count → {u : List ℕ} → u ≡ run (fills_script r.fill n) t
      → u ≡ run (stack_script compound (finding r q)) s
  unfolding stack_script
  singles-laid b m k f =
      f
      ∙ ap₂ (λ (n : ℕ) (l : List ℕ). run (fills_script r.fill n) l) k e
      ∙ sym (run-append (candidates_script compound (live q)) (fills_script r.fill q.count) s)
      ∙ rw (is-got r q z, m, b)

pub found-laid : (r : Findings) (q : Found) → r.answer ≡ 0 → length (live q) ≡ q.count → (l : List ℕ) {n : ℕ} → n ≡ q.count
    → set (set l 0 n) 1 r.context ≡ run (found_script (finding r q)) l
unfolding found_script run put
found-laid r q z m l k = rw (is-got r q z, m, k)

-- the two ways of a search, told by its answer
module _ (r : Findings) (q : Found) {x : SearchOutcome} (e : finding r q ≡ x) (compound : Bool) (s o : List ℕ) where
  pub lends_back : (r.answer ≡ 0 → ⊥) → (r.answer ≡ answer_in x) × ((s ≡ run (stack_script compound x) s) × (o ≡ run (found_script x) o))
  unfolding stack_script found_script run
  lends_back n = rw (sym e ∙ is-refused r q refl n) (refl, (refl, refl))

  pub lays : r.answer ≡ 0 → {b : Bool} {t u : List ℕ} → b ≡ compound → t ≡ run (stack_script b (finding r q)) s → u ≡ run (found_script (finding r q)) o
      → (0 ≡ answer_in x) × ((t ≡ run (stack_script compound x) s) × (u ≡ run (found_script x) o))
  lays z c f g =
      (ap answer_in (sym (is-got r q z) ∙ e), (f ∙ ap₂ (λ (b : Bool) (y : SearchOutcome). run (stack_script b y) s) c e, g ∙ ap (λ (y : SearchOutcome). run (found_script y) o) e))
