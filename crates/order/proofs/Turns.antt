-- A step of a desk by its cases: it moves one row on, it finds its job finished, or it names no job.
-- Assumes nothing.
use mathlib.Core.Path.{◌≡◌, refl, sym, ap, ◌∙◌}
use mathlib.Core.Bool.{Bool, true, false, not, ◌&&◌}
use Prim.Native.Nat.{ℕ, ◌+◌, ◌≤◌, ◌<◌}
use native.Mathlib.Omega.{arith}
use lib.Dec.{eqb, ltb, leb}
use lib.ListN.{set}
use lib.Seq.{set-get_or}
use borrow.Author.Tests.{lt-ltb, le-ltb, le-leb, eq-eqb, ne_eqb}
use Rattle.ground.specs.Pick.{pick}
use Rattle.ground.specs.Script.{run}
use Rattle.ground.proofs.Answers.{refused-not}
use Rattle.ground.proofs.Picks.{pick_true, pick-false}
use Rattle.frame.specs.Record.{well_frame}
use Rattle.motion.specs.saving.Area.{well_area}
use Rattle.motion.specs.loading.Fields.{well_lent}
use Rattle.jobs.specs.declared.job.record.Job.{Job}
use Rattle.jobs.specs.declared.job.record.Batch.{Batch}
use Rattle.jobs.specs.job.Job.{no_job, job_at, well_kind, count_of, own_front, job_front}
use Rattle.jobs.specs.work.Work.{work_read, work_script, on_proj, on_saved}
use Rattle.jobs.specs.Admit.{Handed, lengths_in, sources_in, front_of}
use Rattle.jobs.specs.Step.{done_number, step_number, step_done, step_proj, step_saved}
use Rattle.order.specs.steps.Turn.{with_done, names, turn_number, turn_proj, turn_saved, turn_batch}
use Rattle.order.specs.Desk.{Given, sources_by, Desk, handed_by, answer_to, turn}
use Rattle.order.proofs.Admission.{Fit}

-- ---- the number, of a job as it was accepted with c steps done

module _ (h : Handed) (j : Job) (f : Fit h j) (c : ℕ) where
  -- nothing before the reads refuses
  ahead : c ≤ count_of h.frame j → front_of h (with_done j c) ≡ 0
  unfolding job_front count_of
  ahead l =
      by (count_of h.frame j) l (not (well_frame h.frame && well_lent h.lent)) (not (well_area h.frame.sizes j.area))
      (own_front h.frame h.lent (lengths_in h) j)
      f.ahead
    where
      by : (n : ℕ) → c ≤ n → (x y : Bool) (r : ℕ) → pick x 1 (pick y 3 (pick (ltb n j.done) 12 r)) ≡ 0 → pick x 1 (pick y 3 (pick (ltb n c) 12 r)) ≡ 0
      by n l x y r z =
          let p = refused-not x 0 (pick y 3 (pick (ltb n j.done) 12 r)) z in
          let q = refused-not y 2 (pick (ltb n j.done) 12 r) p.1 in
          let s = refused-not (ltb n j.done) 11 r q.1 in
          rw (p.0, q.0, le-ltb n c l) s.1

  kinds : well_kind (with_done j c) ≡ true
  unfolding well_kind
  kinds = f.kind

  opened : c ≤ count_of h.frame j → step_number h (with_done j c) ≡ pick (eqb c (count_of h.frame (with_done j c))) done_number (work_read h.frame (sources_in h) h.recs (with_done j c) c)
  unfolding step_number
  opened l = rw (kinds, ahead l)

  pub moves : c < count_of h.frame j → step_number h (with_done j c) ≡ 0
  unfolding work_read count_of
  moves l =
      opened (omega arith)
      ∙ pick-false done_number (ne_eqb c (count_of h.frame (with_done j c)) (λ e. omega (arith, l, e)))
      ∙ f.reads c l

  pub finished : c ≡ count_of h.frame j → step_number h (with_done j c) ≡ done_number
  unfolding count_of
  finished e = opened (omega arith) ∙ pick_true _ (eq-eqb c (count_of h.frame (with_done j c)) e)

-- ---- the desk

pub named_in : (b : Batch) (k : ℕ) → b.n ≤ 8 → k < b.n → names b k ≡ true
unfolding names
named_in b k h l = rw (le-leb b.n 8 h, lt-ltb k b.n l)

pub named-out : (b : Batch) (k : ℕ) → b.n ≤ k → names b k ≡ false
unfolding names
named-out b k l = by (leb b.n 8)
  where
    by : (x : Bool) → (x && ltb k b.n) ≡ false
    by true = le-ltb k b.n l
    by false = refl

-- job k is j with c steps done, and moves one row on
abbrev pub onward : Given → ℕ → Job → ℕ → Desk → Desk
onward g k j c e = record {
  batch = record { n = e.batch.n; jobs = set e.batch.jobs k (with_done j (c + 1)) };
  proj = run (on_proj j (work_script g.frame (sources_by g) g.recs j c)) e.proj;
  saved = run (on_saved j (work_script g.frame (sources_by g) g.recs j c)) e.saved;
}

module _ (g : Given) (k : ℕ) (e : Desk) where
  pub no_one : names e.batch k ≡ false → (answer_to g k e ≡ 12) × (turn g k e ≡ e)
  unfolding answer_to turn turn_number turn_batch turn_proj turn_saved run
  no_one n = (pick-false _ n, rw n refl)

  module _ (j : Job) (c : ℕ) (is : job_at e.batch k ≡ with_done j c) (n : names e.batch k ≡ true) where
    number : answer_to g k e ≡ step_number (handed_by g e) (with_done j c)
    unfolding answer_to turn_number
    number = pick_true 12 n ∙ ap (step_number (handed_by g e)) is

    -- a job with rows left
    pub moved : step_number (handed_by g e) (with_done j c) ≡ 0 → (answer_to g k e ≡ 0) × (turn g k e ≡ onward g k j c e)
    unfolding turn turn_batch turn_proj turn_saved step_proj step_saved step_done work_script answer_to turn_number
    moved z = (number ∙ z, rw (n, is, z) refl)

    -- one with none left
    pub stayed : step_number (handed_by g e) (with_done j c) ≡ done_number → (answer_to g k e ≡ done_number) × (turn g k e ≡ e)
    unfolding turn turn_batch turn_proj turn_saved step_proj step_saved step_done answer_to turn_number run
    stayed z = (number ∙ z, rw (n, is, z) (λ i. record { batch = record { n = e.batch.n; jobs = same i }; proj = e.proj; saved = e.saved }))
      where
        same : set e.batch.jobs k (with_done j c) ≡ e.batch.jobs
        same = ap (set e.batch.jobs k) (sym is) ∙ set-get_or e.batch.jobs k no_job
