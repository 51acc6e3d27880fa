-- What a batch and a capture answer and leave, by the tests that were made on the way.
-- Assumes nothing.
use mathlib.Core.Path.{◌≡◌, sym, ap, ap₂, ◌∙◌, subst}
use mathlib.Core.List.{List}
use Prim.Native.Nat.{ℕ, ◌≤◌}
use lib.Dec.{eqb}
use borrow.Author.Tests.{eq-eqb, ne_eqb}
use Rattle.ground.proofs.Answers.{or-accepts, or-refuses}
use Rattle.ground.proofs.Picks.{pick_true, pick-false}
use Rattle.jobs.specs.declared.job.record.Batch.{Batch}
use Rattle.order.specs.Desk.{Given, Desk, desk, handed_by, plays}
use Rattle.order.proofs.Admission.{accepted}
use Rattle.capture.specs.player.Opened.{batch_in, given_in, open_answer}
use Rattle.capture.specs.player.Played.{everywhere, blank_proj, blank_saved, in_order, batch_played, batch_desk, played_answer, played_desk, stride_of}

-- the three promises of a batch
abbrev pub BatchOutcome : Given → (b : Batch) (proj saved : List ℕ) → (answer stride : ℕ) → Desk → Type 0
BatchOutcome g b proj saved n s e = (n ≡ batch_played g b proj saved) × ((s ≡ stride_of n g) × (e ≡ batch_desk g b proj saved))

module _ (g : Given) (b : Batch) (proj saved : List ℕ) {n : ℕ} (a : n ≡ batch_played g b proj saved) where
  pub few : n ≡ 0 → b.n ≤ 8
  few z = (accepted (handed_by g (desk b proj saved)) b (sym a ∙ z)).few

  pub batch-refused : (n ≡ 0 → ⊥) → BatchOutcome g b proj saved n 0 (desk b proj saved)
  unfolding batch_desk
  batch-refused h =
      (a, (sym (pick-false _ (ne_eqb n 0 h)), sym (pick-false _ (ap (λ (m : ℕ). eqb m 0) (sym a) ∙ ne_eqb n 0 h))))

  pub batch-played : n ≡ 0 → {p s : List ℕ} {e : Desk} → p ≡ everywhere blank_proj proj → s ≡ everywhere blank_saved saved
      → e ≡ plays g (in_order b.n) (desk b p s) → BatchOutcome g b proj saved n g.frame.sizes.stride.0 e
  unfolding batch_desk
  batch-played z {p} {s} {e} u v w =
      let blank = ap₂ (λ (p s : List ℕ). plays g (in_order b.n) (desk b p s)) u v in
      (a, (sym (pick_true _ (eq-eqb n 0 z)), w ∙ blank ∙ sym (pick_true _ (ap (λ (m : ℕ). eqb m 0) (sym a) ∙ eq-eqb n 0 z))))

-- those of a capture
abbrev pub Outcome : (file proj saved : List ℕ) → (answer stride : ℕ) → Desk → Type 0
Outcome file proj saved n s e = (n ≡ played_answer file proj saved) × ((s ≡ stride_of n (given_in file)) × (e ≡ played_desk file proj saved))

module _ (file proj saved : List ℕ) {m : ℕ} (a : m ≡ open_answer file) where
  pub unopened : {b : Batch} → b ≡ batch_in file → (m ≡ 0 → ⊥) → Outcome file proj saved m 0 (desk b proj saved)
  unfolding played_answer played_desk
  unopened e h =
      let r = ap (λ (k : ℕ). eqb k 0) (sym a) ∙ ne_eqb m 0 h in
      (a ∙ sym (or-refuses (open_answer file) _ (λ z. h (a ∙ z))), (sym (pick-false _ (ne_eqb m 0 h)), ap (λ (b : Batch). desk b proj saved) e ∙ sym (pick-false _ r)))

  pub played : m ≡ 0 → {b : Batch} {g : Given} {n s : ℕ} {e : Desk} → b ≡ batch_in file → g ≡ given_in file → BatchOutcome g b proj saved n s e
      → Outcome file proj saved n s e
  unfolding played_answer played_desk
  played z {b} {g} {n} {s} {e} p q before =
      let o = subst (λ (h : Given). BatchOutcome h (batch_in file) proj saved n s e) q (subst (λ (c : Batch). BatchOutcome g c proj saved n s e) p before) in
      let r = ap (λ (k : ℕ). eqb k 0) (sym a) ∙ eq-eqb m 0 z in
      (o.0 ∙ sym (or-accepts (open_answer file) _ (sym a ∙ z)), (o.1.0, o.1.1 ∙ sym (pick_true _ r)))
