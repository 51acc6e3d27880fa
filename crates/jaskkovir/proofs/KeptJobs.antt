-- Jobs that were stepped in their bytes, and read again: they are the batch that the step leaves. So what is proved of steps on batches holds of steps
-- on bytes.
-- Assumes nothing.
use mathlib.Core.Path.{◌≡◌, refl, sym, ap, ◌∙◌}
use mathlib.Core.Logic.{◌⊎◌, inl, inr}
use mathlib.Core.Bool.{Bool, true, false}
use mathlib.Core.List.{List, [], ◌∷◌}
use Prim.Native.Nat.{ℕ, zero, suc, ◌+◌, ◌*◌, ◌^◌, ◌≤◌, ◌<◌}
use native.Mathlib.Decide.{ℕ_discrete, dec_lt}
use native.Mathlib.Nat.{zero-add}
use native.Mathlib.Omega.{arith}
use lib.Dec.{eqb, leb, ltb}
use lib.ListN.{length, get_or, set, length-set}
use lib.Seq.{ext_get_or, get_or-set_same, get_or-set_other}
use borrow.Author.Tests.{ne_eqb}
use Rattle.ground.specs.Answer.{accepted}
use Rattle.ground.specs.Little.{four_at, four_bytes}
use Rattle.ground.specs.Pick.{pick}
use Rattle.ground.specs.Put.{put}
use Rattle.ground.specs.Script.{run}
use Rattle.ground.proofs.Littles.{four-back}
use Rattle.ground.proofs.Picks.{both, pick_true}
use Rattle.ground.proofs.Puts.{put-length, put-outside}
use Rattle.ground.specs.Tab.{tab}
use Rattle.ground.proofs.Tabs.{tab-at, tab-length}
use Rattle.jobs.specs.declared.job.record.Job.{Job}
use Rattle.jobs.specs.declared.job.record.Batch.{Batch}
use Rattle.jobs.specs.job.Job.{no_job, job_at}
use Rattle.jobs.specs.job.Bytes.{capture_job, job_bytes, job_held, done_at, job_in, jobs_in, place_in, batch_of}
use Rattle.jobs.specs.Admit.{Handed}
use Rattle.jobs.specs.Step.{step_number, step_done}
use Rattle.jobs.proofs.Steps.{due}
use Rattle.order.specs.steps.Turn.{with_done, names, turn_number, turn_batch}
use Rattle.jaskkovir.specs.Moved.{load_lacks}
use Rattle.jaskkovir.specs.Batched.{handed_in, done_patch, stepped_number, stepped_jobs}
use Rattle.jaskkovir.proofs.LentJobs.{Named, inside, names-job, job-there}

-- the job from byte i on
abbrev job_from : List ℕ → ℕ → Job
job_from l i = job_held l i (done_at job_bytes l i)

-- A job by its bytes: those before its steps done, and the steps done.
module _ (l m : List ℕ) (i : ℕ) where
  but-done : ((p : ℕ) → i ≤ p → p < i + capture_job → get_or l p 0 ≡ get_or m p 0) → job_from l i ≡ with_done (job_from m i) (four_at l (i + capture_job))
  unfolding job_held
  but-done e =
      rw (
        e i (omega arith) (omega arith),
        e (i + 1) (omega arith) (omega arith),
        e (i + 2) (omega arith) (omega arith),
        e (i + 2 + 1) (omega arith) (omega arith),
        e (i + 4) (omega arith) (omega arith),
        e (i + 4 + 1) (omega arith) (omega arith),
        e (i + 6) (omega arith) (omega arith),
        e (i + 6 + 1) (omega arith) (omega arith),
        e (i + 8) (omega arith) (omega arith),
        e (i + 8 + 1) (omega arith) (omega arith),
        e (i + 10) (omega arith) (omega arith),
        e (i + 10 + 1) (omega arith) (omega arith),
        e (i + 12) (omega arith) (omega arith),
      )

  job-same : ((p : ℕ) → i ≤ p → p < i + job_bytes → get_or l p 0 ≡ get_or m p 0) → job_from l i ≡ job_from m i
  unfolding job_held
  job-same e =
      but-done (λ p a b. e p a (omega arith))
      ∙ ap (with_done (job_from m i)) (
      rw (
        e (i + capture_job) (omega arith) (omega arith),
        e (i + capture_job + 1) (omega arith) (omega arith),
        e (i + capture_job + 2) (omega arith) (omega arith),
        e (i + capture_job + 3) (omega arith) (omega arith),
      )
      refl
      )

-- ONE STEP WRITTEN DOWN
module _ (jobs : List ℕ) (k : ℕ) (w : Named (length jobs) k ≡ true) (n : ℕ) (f : n < 2 ^ 32) where
  after : List ℕ
  after = put jobs (job_bytes * k + capture_job) (four_bytes n)

  long : length after ≡ length jobs
  unfolding after
  long = put-length jobs (job_bytes * k + capture_job) (four_bytes n)

  other : (i : ℕ) → (i ≡ k → ⊥) → job_in job_bytes after i ≡ job_in job_bytes jobs i
  unfolding after
  other i d = job-same after jobs (job_bytes * i) (λ p a b. put-outside jobs (job_bytes * k + capture_job) (four_bytes n) p 0 (side (dec_lt i k) p a b))
    where
      side : Dec (i < k) → (p : ℕ) → job_bytes * i ≤ p → p < job_bytes * i + job_bytes → (p < job_bytes * k + capture_job) ⊎ (job_bytes * k + capture_job + 4 ≤ p)
      side (yes l) p a b = inl (omega arith)
      side (no l) p a b = inr (omega (arith, d))

  other_place : (i : ℕ) → (i ≡ k → ⊥) → place_in job_bytes after i ≡ place_in job_bytes jobs i
  unfolding place_in
  other_place i d = rw (long, other i d)

  own : job_in job_bytes after k ≡ with_done (job_in job_bytes jobs k) n
  unfolding after
  own =
      but-done after jobs (job_bytes * k) (λ p a b. put-outside jobs (job_bytes * k + capture_job) (four_bytes n) p 0 (inl (omega arith)))
      ∙ ap (with_done (job_in job_bytes jobs k)) (four-back jobs (job_bytes * k + capture_job) n (omega (arith, (inside (length jobs) k w).1)) f)

  own-place : place_in job_bytes after k ≡ with_done (job_in job_bytes jobs k) n
  unfolding place_in
  own-place =
      let p = both (leb (jobs_in job_bytes (length jobs)) 8) (ltb k (jobs_in job_bytes (length jobs))) w in
      rw long (pick_true no_job p.1 ∙ own)

  tabled : tab (place_in job_bytes after) 0 8 ≡ set (tab (place_in job_bytes jobs) 0 8) k (with_done (job_in job_bytes jobs k) n)
  tabled =
      ext_get_or no_job (tab (place_in job_bytes after) 0 8) (set xs k v)
      (tab-length (place_in job_bytes after) 0 8 ∙ sym (length-set xs k v ∙ tab-length (place_in job_bytes jobs) 0 8))
      (λ i g. tab-at (place_in job_bytes after) no_job 0 8 i (rw tab-length at g) ∙ ap (place_in job_bytes after) (zero-add i) ∙ by i (rw tab-length at g) (ℕ_discrete i k))
    where
      v : Job
      v = with_done (job_in job_bytes jobs k) n

      xs : List Job
      xs = tab (place_in job_bytes jobs) 0 8

      by : (i : ℕ) → i < 8 → Dec (i ≡ k) → place_in job_bytes after i ≡ get_or (set xs k v) i no_job
      by i g (yes q) =
          rw q (own-place ∙ sym (get_or-set_same xs k v no_job (omega (arith, tab-length (place_in job_bytes jobs) 0 8, (inside (length jobs) k w).0))))
      by i g (no q) =
          other_place i q ∙ sym (get_or-set_other xs k i v no_job (λ z. omega (arith, q)) ∙ tab-at (place_in job_bytes jobs) no_job 0 8 i g ∙ ap (place_in job_bytes jobs) (zero-add i))

  batched : batch_of job_bytes (run (done_patch k n) jobs) ≡ record { n = (batch_of job_bytes jobs).n; jobs = set (batch_of job_bytes jobs).jobs k (with_done (job_in job_bytes jobs k) n) }
  unfolding after batch_of run done_patch
  batched = λ t. record { n = jobs_in job_bytes (long t); jobs = tabled t }

-- a place that is set to what it has
set_own : {A : Type 0} (d : A) (xs : List A) (k : ℕ) → set xs k (get_or xs k d) ≡ xs
set_own d [] k = refl
set_own d (x ∷ xs) zero = refl
set_own d (x ∷ xs) (suc k) = ap (λ ys. x ∷ ys) (set_own d xs k)

unstepped : (jobs : List ℕ) (k : ℕ) → Named (length jobs) k ≡ true
    → batch_of job_bytes jobs ≡ record { n = (batch_of job_bytes jobs).n; jobs = set (batch_of job_bytes jobs).jobs k (job_in job_bytes jobs k) }
unstepped jobs k w =
    let e = ap (set (batch_of job_bytes jobs).jobs k) (sym (job-there jobs k w)) ∙ set_own no_job (batch_of job_bytes jobs).jobs k in
    λ t. record { n = (batch_of job_bytes jobs).n; jobs = sym e t }

-- THE WHOLE BATCH, whatever the step answers
pub batch-kept : (h : Handed) (jobs : List ℕ) (k : ℕ)
    → batch_of job_bytes (run (accepted (turn_number h (batch_of job_bytes jobs) k) (done_patch k ((job_in job_bytes jobs k).done + 1))) jobs) ≡ turn_batch h (batch_of job_bytes jobs) k
unfolding turn_number turn_batch step_done run
batch-kept h jobs k = by (Named (length jobs) k) refl
  where
    b : Batch
    b = batch_of job_bytes jobs

    -- with the number n and the record j
    left : ℕ → Job → Batch
    left n j = record { n = b.n; jobs = set b.jobs k (with_done j (pick (eqb n 0) (j.done + 1) j.done)) }

    named : (n : ℕ) → n ≡ step_number h (job_in job_bytes jobs k) → Named (length jobs) k ≡ true
        → batch_of job_bytes (run (accepted n (done_patch k ((job_in job_bytes jobs k).done + 1))) jobs) ≡ left n (job_in job_bytes jobs k)
    named zero e w = batched jobs k w ((job_in job_bytes jobs k).done + 1) (omega (arith, (due h (job_in job_bytes jobs k) e refl).small))
    named (suc n) e w = rw (ne_eqb (suc n) 0 (λ z. absurd (omega arith))) (unstepped jobs k w)

    by : (t : Bool) → Named (length jobs) k ≡ t
        → batch_of job_bytes (run (accepted (pick (names b k) (step_number h (job_at b k)) 12) (done_patch k ((job_in job_bytes jobs k).done + 1))) jobs)
        ≡ pick (names b k) (left (step_number h (job_at b k)) (job_at b k)) b
    by true w = rw (names-job jobs k w, job-there jobs k w) (named (step_number h (job_in job_bytes jobs k)) refl w)
    by false w = rw (names-job jobs k w) refl

-- and of the exported step, whose parts are long enough
pub step_kept : (frame present jobs : List ℕ) (k : ℕ) (fields : List (List ℕ)) (records : List ℕ) (nproj nsaved : ℕ) → load_lacks (length frame) (length present) ≡ false
    → batch_of job_bytes (run (stepped_jobs frame present jobs k fields records nproj nsaved) jobs) ≡ turn_batch (handed_in frame present fields records nproj nsaved) (batch_of job_bytes jobs) k
unfolding stepped_jobs stepped_number
step_kept frame present jobs k fields records nproj nsaved e = rw e (batch-kept (handed_in frame present fields records nproj nsaved) jobs k)
