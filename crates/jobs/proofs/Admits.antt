-- The admission's ways out, and what it shows of every job's area.
-- Assumes nothing.
use mathlib.Core.Path.{◌≡◌, sym, ap, ◌∙◌}
use mathlib.Core.Bool.{true, false}
use Prim.Native.Nat.{ℕ, ◌<◌}
use native.Mathlib.Omega.{arith}
use lib.ListN.{length}
use Rattle.ground.specs.Pick.{pick}
use Rattle.ground.proofs.Answers.{both-accept, or-accepts, or-refuses}
use Rattle.ground.proofs.Spans.{all-accept}
use Rattle.frame.specs.Record.{well_frame}
use Rattle.motion.specs.saving.Area.{well_area}
use Rattle.motion.specs.loading.Fields.{lengths_of}
use Rattle.jobs.specs.declared.job.record.Job.{Job}
use Rattle.jobs.specs.declared.job.record.Batch.{Batch}
use Rattle.jobs.specs.declared.job.record.Lengths.{Lengths}
use Rattle.jobs.specs.job.Job.{job_at, well_batch, job_front}
use Rattle.jobs.specs.Code.Step.{Able}
use Rattle.jobs.proofs.job.Batches.{formed}
use Rattle.jobs.proofs.job.Fronts.{Front, front}
use Rattle.jobs.specs.Code.Admit.{Areas}
use Rattle.jobs.specs.Admit.{Handed, lengths_in, sources_in, front_of, job_reads, job_answer, jobs_answer, apart, batch_answer}

-- a job's front, by lengths that are those of what is handed
pub front-told : (h : Handed) (j : Job) {n : Lengths} {r : ℕ} → n ≡ lengths_in h → r ≡ job_front h.frame h.lent n j → r ≡ front_of h j
front-told h j p e = e ∙ ap (λ (m : Lengths). job_front h.frame h.lent m j) p

-- ONE JOB'S TWO WAYS OUT
module _ (h : Handed) (j : Job) {r : ℕ} (e : r ≡ front_of h j) where
  pub front-answers : (r ≡ 0 → ⊥) → r ≡ job_answer h j
  unfolding job_answer
  front-answers n = e ∙ sym (or-refuses (front_of h j) _ (λ z. n (e ∙ z)))

  pub to-check : r ≡ 0
      → ((well_frame h.frame ≡ true) × (well_area h.frame.sizes j.area ≡ true)) × Able h.frame j (lengths_of h.fields) (length h.recs)
  to-check z = let p = front h.frame h.lent (lengths_in h) j (sym e ∙ z) in ((p.frame, p.area), p.able)

  pub reads-answer : r ≡ 0 → {q : ℕ} → q ≡ job_reads h.frame (sources_in h) h.recs j → q ≡ job_answer h j
  unfolding job_answer
  reads-answer z k = k ∙ sym (or-accepts (front_of h j) _ (sym e ∙ z))

-- every job's area
pub areas : (h : Handed) (b : Batch) → well_batch b ≡ true → {r : ℕ} → r ≡ jobs_answer h b → r ≡ 0 → Areas h.frame b b.n
unfolding job_answer
areas h b w e z = record { frame = (shown 0 (omega (arith, (formed b w).some))).frame; few = (formed b w).few; each = λ i g. (shown i g).area }
  where
    shown : (i : ℕ) → i < b.n → Front h.frame (lengths_in h) (job_at b i)
    shown i g =
        front h.frame h.lent (lengths_in h) (job_at b i)
        (both-accept (front_of h (job_at b i)) _ (all-accept _ 0 b.n i (sym e ∙ z) (omega arith) g)).0

-- THE BATCH'S WAYS OUT
module _ (h : Handed) (b : Batch) where
  pub ill-formed : well_batch b ≡ false → 12 ≡ batch_answer h b
  unfolding batch_answer
  ill-formed w = rw w

  module _ (w : well_batch b ≡ true) {r : ℕ} (e : r ≡ jobs_answer h b) where
    pub job-refuses : (r ≡ 0 → ⊥) → r ≡ batch_answer h b
    unfolding batch_answer
    job-refuses m = rw w (e ∙ sym (or-refuses (jobs_answer h b) _ (λ z. m (e ∙ z))))

    pub by-windows : r ≡ 0 → pick (apart h.frame b) 0 11 ≡ batch_answer h b
    unfolding batch_answer
    by-windows z = rw w (sym (or-accepts (jobs_answer h b) _ (sym e ∙ z)))
