-- What an admitted batch is: each job accepted, each row of its work readable, no two windows with a cell in common.
-- Assumes nothing.
use mathlib.Core.Path.{◌≡◌, refl}
use mathlib.Core.Bool.{Bool, true, false, not}
use Prim.Native.Nat.{ℕ, ◌≤◌, ◌<◌}
use native.Mathlib.Omega.{arith}
use borrow.Author.Tests.{not-true, not-false}
use Rattle.ground.specs.Pick.{pick}
use Rattle.ground.proofs.Answers.{refused-not, both-accept}
use Rattle.ground.proofs.Belows as belows
use Rattle.ground.proofs.Spans as spans
use Rattle.frame.specs.declared.extent.sizes.Sizes.{Sizes}
use Rattle.frame.specs.Record.{well_frame}
use Rattle.frame.specs.extent.Sizes.{well_sizes, part_of}
use Rattle.motion.specs.declared.saving.area.Area.{Area}
use Rattle.motion.specs.saving.Area.{well_area, strip_of, window_of}
use Rattle.motion.proofs.saving.Areas as areas
use Rattle.jobs.specs.declared.job.record.Job.{Job}
use Rattle.jobs.specs.declared.job.record.Batch.{Batch}
use Rattle.jobs.specs.job.Job.{job_at, well_kind, well_batch, count_of}
use Rattle.jobs.specs.job.Share.{meets}
use Rattle.jobs.proofs.job.Batches.{formed}
use Rattle.jobs.proofs.job.Fronts.{front}
use Rattle.jobs.proofs.job.Shared.{Framed, Walked}
use Rattle.jobs.specs.work.Work.{admit_read}
use Rattle.jobs.specs.Admit.{Handed, lengths_in, sources_in, front_of, job_reads, job_answer, jobs_answer, alone_at, apart, batch_answer}

-- one job
pub record Fit (h : Handed) (j : Job) : Type 0 where
  pub kind : well_kind j ≡ true
  pub answer : job_answer h j ≡ 0
  pub ahead : front_of h j ≡ 0
  pub frame : well_frame h.frame ≡ true
  pub area : well_area h.frame.sizes j.area ≡ true
  pub reads : (k : ℕ) → k < count_of h.frame j → admit_read h.frame (sources_in h) h.recs j k ≡ 0

fit : (h : Handed) (j : Job) → well_kind j ≡ true → job_answer h j ≡ 0 → Fit h j
unfolding job_answer job_reads
fit h j k z =
    let p = both-accept (front_of h j) (job_reads h.frame (sources_in h) h.recs j) z in
    let q = front h.frame h.lent (lengths_in h) j p.0 in
    record {
      kind = k;
      answer = z;
      ahead = p.0;
      frame = q.frame;
      area = q.area;
      reads = λ i l. spans.all-accept (admit_read h.frame (sources_in h) h.recs j) 0 (count_of h.frame j) i p.1 (omega arith) l;
    }

pub record Accepted (h : Handed) (b : Batch) : Type 0 where
  pub some : 0 < b.n
  pub few : b.n ≤ 8
  pub each : (i : ℕ) → i < b.n → Fit h (job_at b i)
  pub alone : (i j : ℕ) → i < j → j < b.n → meets h.frame (job_at b i) (job_at b j) ≡ false

pub accepted : (h : Handed) (b : Batch) → batch_answer h b ≡ 0 → Accepted h b
unfolding batch_answer apart alone_at
accepted h b z =
    let p = refused-not (not (well_batch b)) 11 _ z in
    let r = both-accept (jobs_answer h b) (pick (apart h.frame b) 0 11) p.1 in
    let w = formed b (not-false _ p.0) in
    record {
      some = w.some;
      few = w.few;
      each = λ i l. fit h (job_at b i) (w.kinds i l) (spans.all-accept (λ i. job_answer h (job_at b i)) 0 b.n i r.0 (omega arith) l);
      alone = λ i j l m. not-true _ (belows.at (λ i. not (meets h.frame (job_at b i) (job_at b j))) j i (belows.at (alone_at h.frame b) b.n j (yes_of (apart h.frame b) r.1) m) l);
    }
  where
    yes_of : (x : Bool) → ◌≡◌ {A = ℕ} (pick x 0 11) 0 → x ≡ true
    yes_of true e = refl
    yes_of false e = absurd (omega arith)

-- an accepted job's windows
pub framed : (s : Sizes) (a : Area) → well_sizes s ≡ true → well_area s a ≡ true → Framed s.stride.0 (window_of s a)
unfolding window_of
framed s a e h =
    record { part = part_of s a.tile; stride = refl; start = refl; columns = (areas.asked s a h).within; rows = (areas.cut s a e h).few }

pub walked : (s : Sizes) (a : Area) → well_sizes s ≡ true → well_area s a ≡ true → Walked s.stride.0 (strip_of s a)
unfolding strip_of
walked s a e h = record { stride = refl; columns = (areas.cut s a e h).limit }
