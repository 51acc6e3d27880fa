-- A step of a batch: its two ways out.
-- Assumes nothing.
use mathlib.Core.Path.{◌≡◌, refl, sym, ap, ◌∙◌}
use mathlib.Core.Bool.{true, false}
use mathlib.Core.List.{List, []}
use Prim.Native.Nat.{ℕ, zero, suc, ◌<◌}
use native.Mathlib.Omega.{arith}
use lib.Dec.{leb, ltb}
use lib.ListN.{set}
use borrow.Author.Tests.{leb-true, ltb-true}
use Rattle.ground.specs.Answer.{accepted}
use Rattle.ground.specs.Script.{Patch, run}
use Rattle.ground.proofs.Picks.{both}
use Rattle.jobs.specs.declared.job.record.Batch.{Batch}
use Rattle.jobs.specs.job.Job.{job_at}
use Rattle.jobs.specs.declared.step.Answer.{Answer}
use Rattle.jobs.specs.declared.step.Answer.TheVariants.{Refused}
use Rattle.jobs.specs.declared.job.record.Job.{Job}
use Rattle.jobs.specs.Admit.{Handed}
use Rattle.jobs.specs.Step.{answer_of, step_number, step_done, step_proj, step_saved}
use Rattle.jobs.proofs.Steps.{proj-none, saved-none}
use Rattle.order.specs.declared.steps.turn.Turned.{Turned}
use Rattle.order.specs.steps.Turn.{with_done, names, turn_number, turn_proj, turn_saved, turn_batch, turned as outcome}

pub named : (b : Batch) (k : ℕ) → names b k ≡ true → k < 8
unfolding names
named b k e = let p = both (leb b.n 8) (ltb k b.n) e in omega (arith, leb-true b.n 8 p.0, ltb-true k b.n p.1)

accepted-same : (n : ℕ) (ps : List Patch) → ((n ≡ 0 → ⊥) → ps ≡ []) → accepted n ps ≡ ps
accepted-same zero ps h = refl
accepted-same (suc n) ps h = sym (h (λ e. omega arith))

turned-to : {a c : Answer} {b d : Batch} → a ≡ c → b ≡ d → ◌≡◌ {A = Turned} (record { answer = a; batch = b }) (record { answer = c; batch = d })
turned-to e q = λ t. record { answer = e t; batch = q t }

module _ (h : Handed) (b : Batch) (k : ℕ) (proj saved : List ℕ) where
  pub unnamed : names b k ≡ false
      → (◌≡◌ {A = Turned} (record { answer = Refused 12; batch = b }) (outcome h b k))
      × ((proj ≡ run (turn_proj h b k) proj) × (saved ≡ run (turn_saved h b k) saved))
  unfolding answer_of turn_number turn_batch turn_proj turn_saved run
  unnamed e = rw e (refl, (refl, refl))

  pub turned : names b k ≡ true → {a : Answer} {j : Job} {t u : List ℕ}
      → a ≡ answer_of (step_number h (job_at b k)) → j ≡ with_done (job_at b k) (step_done h (job_at b k))
      → t ≡ run (step_proj h (job_at b k)) proj → u ≡ run (step_saved h (job_at b k)) saved
      → (◌≡◌ {A = Turned} (record { answer = a; batch = record { n = b.n; jobs = set b.jobs k j } }) (outcome h b k))
      × ((t ≡ run (turn_proj h b k) proj) × (u ≡ run (turn_saved h b k) saved))
  unfolding turn_number turn_batch turn_proj turn_saved
  turned e q r p g =
      rw e (
        turned-to q (λ t. record { n = b.n; jobs = set b.jobs k (r t) }),
        (
          p ∙ ap (λ (x : List Patch). run x proj) (sym (accepted-same (step_number h (job_at b k)) _ (proj-none h (job_at b k)))),
          g ∙ ap (λ (x : List Patch). run x saved) (sym (accepted-same (step_number h (job_at b k)) _ (saved-none h (job_at b k)))),
        ),
      )
