-- All of a job's rows of work lay what its own entry lays: a load's steps are `load_tmvs`, a save's rows `save_tmvs`.
-- Assumes nothing.
use mathlib.Core.Path.{◌≡◌, sym, ap, ap₂, ◌∙◌}
use mathlib.Core.Bool.{true, false, not, ◌&&◌}
use mathlib.Core.List.{List}
use Prim.Native.Nat.{ℕ, ◌+◌, ◌-◌, ◌≤◌, ◌<◌}
use native.Mathlib.Nat.{add-zero}
use native.Mathlib.Omega.{arith}
use lib.Dec.{ltb}
use lib.ListN.{length}
use Rattle.ground.specs.Answer.{accepted}
use Rattle.ground.specs.Script.{Patch}
use Rattle.ground.specs.Span.{over, span}
use Rattle.ground.proofs.Answers.{refused-not, or-accepts}
use Rattle.ground.proofs.Picks.{pick_true, pick-false}
use Rattle.ground.proofs.Spans as spans
use Rattle.frame.specs.Record.{well_frame}
use Rattle.frame.specs.extent.Sizes.{records}
use Rattle.motion.specs.saving.Area.{well_area, strip_of, bottom_of}
use Rattle.motion.specs.saving.Save.{row_read, row_patch, save_table, save_front, save_reads, save_answer, save_script}
use Rattle.motion.specs.loading.Fields.{well_lent}
use Rattle.motion.specs.loading.Load.{steps_of, step_read, step_script, load_front, load_reads, load_answer, load_script}
use Rattle.motion.specs.loading.Used.{uses_of}
use Rattle.motion.proofs.loading.Steps.{whole-steps}
use Rattle.jobs.specs.declared.job.record.Job.{Job}
use Rattle.jobs.specs.job.Job.{is_load, window_in, strip_in, count_of, own_front, job_front}
use Rattle.jobs.specs.work.Work.{work_read, work_script}
use Rattle.jobs.specs.Admit.{Handed, lengths_in, sources_in}
use Rattle.order.proofs.Admission.{Fit}

accepted-all : (n : ℕ) (ps : List Patch) → n ≡ 0 → ps ≡ accepted n ps
accepted-all n ps e = rw e

module _ (h : Handed) (j : Job) (f : Fit h j) where
  -- its own front, behind what is judged of every job
  front-own : own_front h.frame h.lent (lengths_in h) j ≡ 0
  unfolding job_front
  front-own =
      let p = refused-not (not (well_frame h.frame && well_lent h.lent)) 0 _ f.ahead in
      let q = refused-not (not (well_area h.frame.sizes j.area)) 2 _ p.1 in
      (refused-not (ltb (count_of h.frame j) j.done) 11 _ q.1).1

  -- A LOAD
  module _ (e : is_load j ≡ true) where
    load-count : count_of h.frame j ≡ steps_of (window_in h.frame j) (uses_of h.frame)
    unfolding count_of
    load-count = pick_true _ e

    load-accepted : load_answer h.fields h.frame j.area h.lent h.nproj ≡ 0
    unfolding load_answer load_reads work_read
    load-accepted =
        or-accepts (load_front h.frame j.area h.lent (lengths_in h).fields h.nproj) _ (sym (pick_true _ e) ∙ front-own)
        ∙ spans.none-refuses (step_read (sources_in h) (window_in h.frame j)) 0 (steps_of (window_in h.frame j) (uses_of h.frame)) (λ k _ l. read k l)
      where
        read : (k : ℕ) → k < steps_of (window_in h.frame j) (uses_of h.frame) → step_read (sources_in h) (window_in h.frame j) k ≡ 0
        read k l = sym (pick_true _ e) ∙ f.reads k (omega (arith, l, load-count))

    pub load-whole : span (work_script h.frame (sources_in h) h.recs j) 0 (count_of h.frame j) ≡ load_script h.fields h.frame j.area h.lent h.nproj
    unfolding work_script load_script
    load-whole =
        ap (span (work_script h.frame (sources_in h) h.recs j) 0) load-count
        ∙ spans.alike (work_script h.frame (sources_in h) h.recs j) (step_script (sources_in h) (window_in h.frame j) (uses_of h.frame)) 0 (steps_of (window_in h.frame j) (uses_of h.frame)) (λ k _ _. pick_true _ e)
        ∙ sym (whole-steps (sources_in h) (window_in h.frame j) (uses_of h.frame))
        ∙ accepted-all _ _ load-accepted

  -- A SAVE
  module _ (e : is_load j ≡ false) where
    row : ℕ → List Patch
    row y = row_patch h.recs (save_table h.frame j.area j.sby j.pass) h.frame.refs (strip_in h.frame j) y

    save-count : count_of h.frame j ≡ bottom_of h.frame.sizes j.area - j.area.top.0
    unfolding count_of strip_of
    save-count = pick-false _ e

    save-accepted : save_answer h.recs h.frame j.area j.sby j.pass h.nsaved ≡ 0
    unfolding save_answer save_reads work_read
    save-accepted =
        or-accepts (save_front h.frame j.area j.pass (length h.recs) h.nsaved) _ (sym (pick-false _ e) ∙ front-own)
        ∙ spans.none-refuses (row_read h.recs (records h.frame.sizes) (save_table h.frame j.area j.sby j.pass) (strip_in h.frame j)) j.area.top.0 (bottom_of h.frame.sizes j.area) read
      where
        read : (y : ℕ) → j.area.top.0 ≤ y → y < bottom_of h.frame.sizes j.area
            → row_read h.recs (records h.frame.sizes) (save_table h.frame j.area j.sby j.pass) (strip_in h.frame j) y ≡ 0
        read y a b =
            let q : y ≡ j.area.top.0 + (y - j.area.top.0) = omega arith in
            ap (row_read h.recs (records h.frame.sizes) (save_table h.frame j.area j.sby j.pass) (strip_in h.frame j)) q
            ∙ sym (pick-false _ e) ∙ f.reads (y - j.area.top.0) (omega (arith, a, b, save-count))

    pub save-whole : span (work_script h.frame (sources_in h) h.recs j) 0 (count_of h.frame j) ≡ save_script h.recs h.frame j.area j.sby j.pass h.nsaved
    unfolding work_script save_script row span
    save-whole =
        ap (span (work_script h.frame (sources_in h) h.recs j) 0) save-count
        ∙ spans.alike (work_script h.frame (sources_in h) h.recs j) (λ k. row (j.area.top.0 + k)) 0 (bottom_of h.frame.sizes j.area - j.area.top.0) (λ k _ _. pick-false _ e)
        ∙ spans.shifted row j.area.top.0 0 (bottom_of h.frame.sizes j.area - j.area.top.0)
        ∙ ap₂ (over row) many (add-zero j.area.top.0)
        ∙ accepted-all _ _ save-accepted
      where
        many : j.area.top.0 + (bottom_of h.frame.sizes j.area - j.area.top.0) - (j.area.top.0 + 0) ≡ bottom_of h.frame.sizes j.area - j.area.top.0
        many = omega arith
