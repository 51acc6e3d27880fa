-- Jobs in lent bytes: which numbers name one, and the ways out of a step.
-- Assumes nothing.
use mathlib.Core.Path.{◌≡◌, refl, sym, ap, ◌∙◌}
use mathlib.Core.Bool.{Bool, true, false, ◌&&◌}
use mathlib.Core.List.{List, []}
use Prim.Native.Nat.{ℕ, zero, suc, ◌+◌, ◌*◌, ◌≤◌}
use native.Mathlib.Nat.{zero-add}
use native.Mathlib.Omega.{arith}
use lib.Dec.{eqb, leb, ltb}
use lib.ListN.{length}
use borrow.Author.Tests.{eqb-true, leb-true, ltb-true}
use Rattle.ground.specs.Answer.{accepted}
use Rattle.ground.specs.Pick.{pick}
use Rattle.ground.specs.Script.{Patch, run}
use Rattle.ground.proofs.Picks.{both, pick_true}
use Rattle.ground.proofs.Tabs.{tab-at}
use Rattle.jobs.specs.declared.job.record.Job.{Job}
use Rattle.jobs.specs.job.Job.{no_job, job_at}
use Rattle.jobs.specs.job.Bytes.{job_bytes, job_in, jobs_in, place_in, batch_of}
use Rattle.jobs.specs.declared.step.Answer.TheVariants.{Moved, Done, Refused}
use Rattle.jobs.specs.declared.step.Stepped.{Stepped}
use Rattle.jobs.specs.Admit.{Handed}
use Rattle.jobs.specs.Step.{done_number, number_of, answer_of, step_number, step_done, stepped as told, step_proj, step_saved}
use Rattle.order.specs.steps.Turn.{names, turn_number, turn_proj, turn_saved}
use Rattle.order.proofs.steps.Turns as turns
use Rattle.jaskkovir.specs.Batched.{done_patch}

-- an answer's number is the one that it was made of
pub number-back : (n : ℕ) → number_of (answer_of n) ≡ n
unfolding answer_of
number-back n = by (eqb n 0) (eqb n done_number) refl refl
  where
    by : (a b : Bool) → eqb n 0 ≡ a → eqb n done_number ≡ b → number_of (pick a Moved (pick b Done (Refused n))) ≡ n
    by true b e g = sym (eqb-true n 0 e)
    by false true e g = sym (eqb-true n done_number g)
    by false false e g = refl

-- WHICH NUMBERS NAME A JOB
abbrev pub Named : ℕ → ℕ → Bool
Named len k = leb (jobs_in job_bytes len) 8 && ltb k (jobs_in job_bytes len)

pub inside : (len k : ℕ) → Named len k ≡ true → (k ≤ 7) × (job_bytes * k + job_bytes ≤ len)
inside len k e =
    let p = both (leb (jobs_in job_bytes len) 8) (ltb k (jobs_in job_bytes len)) e in
    let a = leb-true (jobs_in job_bytes len) 8 p.0 in
    let b = ltb-true k (jobs_in job_bytes len) p.1 in
    (omega arith, omega arith)

module _ (jobs : List ℕ) (k : ℕ) where
  pub names-job : {t : Bool} → Named (length jobs) k ≡ t → names (batch_of job_bytes jobs) k ≡ t
  unfolding names batch_of
  names-job e = e

  pub job-there : Named (length jobs) k ≡ true → job_at (batch_of job_bytes jobs) k ≡ job_in job_bytes jobs k
  unfolding batch_of place_in
  job-there e =
      let p = both (leb (jobs_in job_bytes (length jobs)) 8) (ltb k (jobs_in job_bytes (length jobs))) e in
      tab-at (place_in job_bytes jobs) no_job 0 8 k (omega (arith, (inside (length jobs) k e).0))
      ∙ ap (place_in job_bytes jobs) (zero-add k)
      ∙ pick_true no_job p.1

-- a step that is counted writes one more step done
counted : (n k d : ℕ) → accepted n (done_patch k (pick (eqb n 0) (d + 1) d)) ≡ accepted n (done_patch k (d + 1))
counted zero k d = refl
counted (suc n) k d = refl

-- A STEP'S WAYS OUT: `lacks` is whether a part is too short
module _ (h : Handed) (jobs : List ℕ) (k : ℕ) (proj saved : List ℕ) (lacks : Bool) where
  -- what the contract says of one that answers n and leaves v, t and u of the jobs, the projection and the saved field
  abbrev Ends : ℕ → (v t u : List ℕ) → Type 0
  Ends n v t u =
      (n ≡ pick lacks 4 (turn_number h (batch_of job_bytes jobs) k))
      × ((v ≡ run (accepted (pick lacks 4 (turn_number h (batch_of job_bytes jobs) k)) (done_patch k ((job_in job_bytes jobs k).done + 1))) jobs)
      × ((t ≡ run (pick lacks [] (turn_proj h (batch_of job_bytes jobs) k)) proj) × (u ≡ run (pick lacks [] (turn_saved h (batch_of job_bytes jobs) k)) saved)))

  pub lacking : lacks ≡ true → Ends 4 jobs proj saved
  unfolding run
  lacking e = rw e (refl, (refl, (refl, refl)))

  pub unnamed : lacks ≡ false → Named (length jobs) k ≡ false → Ends 12 jobs proj saved
  unfolding run turn_number turn_proj turn_saved
  unnamed e g = rw (e, names-job jobs k g) (refl, (refl, (refl, refl)))

  pub stepped : lacks ≡ false → Named (length jobs) k ≡ true → {j : Job} {s : Stepped} {n : ℕ} {v t u : List ℕ} → j ≡ job_in job_bytes jobs k
      → s ≡ told h j → n ≡ number_of s.answer
      → v ≡ run (accepted n (done_patch k s.done)) jobs → t ≡ run (step_proj h j) proj → u ≡ run (step_saved h j) saved
      → Ends n v t u
  unfolding turn_number step_done
  stepped e g {j} {s} {n} q r a b c d =
      let w = names-job jobs k g in
      let i : j ≡ job_at (batch_of job_bytes jobs) k = q ∙ sym (job-there jobs k g) in
      let m : n ≡ step_number h j = a ∙ ap (λ (x : Stepped). number_of x.answer) r ∙ number-back (step_number h j) in
      let z =
      turns.turned h (batch_of job_bytes jobs) k proj saved w
      (ap (λ (x : Stepped). x.answer) (r ∙ ap (told h) i)) refl
      (c ∙ ap (λ (x : Job). run (step_proj h x) proj) i)
      (d ∙ ap (λ (x : Job). run (step_saved h x) saved) i) in
      let y : n ≡ turn_number h (batch_of job_bytes jobs) k = m ∙ ap (step_number h) i ∙ sym (pick_true 12 w) in
      rw e (
        y,
        (
          b ∙ ap (λ (x : Stepped). run (accepted n (done_patch k x.done)) jobs) r
              ∙ ap (λ (x : ℕ). run (accepted n (done_patch k (pick (eqb x 0) (j.done + 1) j.done))) jobs) (sym m)
              ∙ ap (λ (x : List Patch). run x jobs) (counted n k j.done)
              ∙ ap (λ (x : Job). run (accepted n (done_patch k (x.done + 1))) jobs) q
              ∙ ap (λ (x : ℕ). run (accepted x (done_patch k ((job_in job_bytes jobs k).done + 1))) jobs) y,
          (z.1.0, z.1.1),
        ),
      )
