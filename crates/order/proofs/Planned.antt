-- An admitted batch as a plan of the general theorem (ground, specs/Window): buffers by number, a window and a count for each job, rows of work that go by no byte of
-- what they write.
-- Assumes nothing.
use mathlib.Core.Path.{◌≡◌, refl, sym, ◌∙◌, subst, fun_ext}
use mathlib.Core.Bool.{Bool, true, false, true≢false, not, ◌&&◌}
use mathlib.Core.List.{List, []}
use Prim.Native.Nat.{ℕ, zero, suc, ◌+◌, ◌-◌, ◌/◌, ◌≤◌, ◌<◌}
use native.Mathlib.Decide.{ℕ_discrete, dec_lt}
use native.Mathlib.Omega.{arith}
use lib.ListN.{length, get_or}
use lib.Seq.{ext_get_or}
use Rattle.ground.specs.Pick.{pick}
use Rattle.ground.specs.Script.{Patch, run}
use Rattle.ground.specs.Window.{Plan, Shape, Free}
use Rattle.ground.proofs.Scripts.{run_length, run-outside, run-local}
use Rattle.frame.specs.declared.extent.sizes.Sizes.{Sizes}
use Rattle.frame.specs.Record.{well_frame}
use Rattle.frame.specs.extent.Sizes.{well_sizes, records}
use Rattle.frame.proofs.Records.{frame-sizes}
use Rattle.frame.proofs.extent.Sizing as sizing
use Rattle.rows.specs.declared.table.RowEntry.{RowEntry}
use Rattle.motion.specs.declared.saving.area.Strip.{Strip}
use Rattle.motion.specs.declared.saving.area.Window.{Window}
use Rattle.motion.specs.saving.Area.{well_area, strip_of}
use Rattle.motion.specs.saving.Save.{row_read, row_patch, save_table}
use Rattle.motion.proofs.saving.Areas as areas
use Rattle.motion.proofs.saving.Saved.{row_inside}
use Rattle.motion.specs.loading.Load.{rows_of, steps_of, step_read, step_script}
use Rattle.motion.specs.loading.Used.{uses_of}
use Rattle.motion.proofs.loading.Outsides.{step-outside}
use Rattle.motion.proofs.loading.Steps.{within}
use Rattle.jobs.specs.declared.job.record.Job.{Job}
use Rattle.jobs.specs.job.Job.{job_at, is_load, window_in, strip_in, count_of}
use Rattle.jobs.specs.job.Share.{LoadCell, SaveCell, loads_meet, saves_meet, meets}
use Rattle.jobs.proofs.job.Shared.{loads-apart, saves-apart}
use Rattle.jobs.specs.work.Work.{work_read, work_script, on_proj, on_saved}
use Rattle.jobs.specs.Admit.{Handed}
use Rattle.order.specs.Desk.{Given, sources_by, Desk, Buffers, buffers, handed_by}
use Rattle.order.specs.Demand.{InWindow, on_buffer}
use Rattle.order.proofs.Admission.{Fit, Accepted, framed, walked}
use Rattle.order.proofs.Windowed as windowed

-- row k of job j's work
abbrev pub script : Given → Job → ℕ → List Patch
script g j k = work_script g.frame (sources_by g) g.recs j k

abbrev pub worked : Given → Job → ℕ → Buffers → Buffers
worked g j k m b = run (on_buffer b j (script g j k)) (m b)

-- a cell is a byte of a buffer: the buffer's number, and where it stands
abbrev pub plan_of : Given → Desk → Plan
plan_of g d = record {
  Mem = Buffers;
  Cell = ℕ × ℕ;
  Val = λ _. ℕ;
  at = λ m c. get_or (m c.0) c.1 0;
  Ok = λ m. (b : ℕ) → length (m b) ≡ length (buffers d b);
  W = λ j c. (j < d.batch.n) × InWindow g (job_at d.batch j) c.0 c.1;
  jobs = d.batch.n;
  cnt = λ j. count_of g.frame (job_at d.batch j);
  row = λ j k m. worked g (job_at d.batch j) k m;
  ready = λ _ _. true;
}

-- ---- one job

stride-some : (s : Sizes) → well_sizes s ≡ true → 0 < s.stride.0
stride-some s e =
    let f = sizing.fits s e in
    let k = sizing.eighths-stride s.width in
    omega (arith, f.stride, sizing.eighths-some s.width f.limits.width.some, k)

module _ (g : Given) (h : Handed) (same : h.frame ≡ g.frame) (j : Job) (f : Fit h j) where
  sizes : well_sizes g.frame.sizes ≡ true
  sizes = frame-sizes g.frame (subst (λ x. well_frame x ≡ true) same f.frame)

  area : well_area g.frame.sizes j.area ≡ true
  area = subst (λ x. well_area x.sizes j.area ≡ true) same f.area

  -- windows can be told
  pub holds? : (b i : ℕ) → Dec (InWindow g j b i)
  holds? zero i = by (is_load j) refl
    where
      by : (x : Bool) → is_load j ≡ x → Dec (InWindow g j 0 i)
      by false e = no (λ x. true≢false (sym x.0 ∙ e))
      by true e = told (windowed.load? g.frame.sizes.stride.0 (window_in g.frame j) (framed g.frame.sizes j.area sizes area) (stride-some g.frame.sizes sizes) (i / 5))
        where
          told : Dec (LoadCell (window_in g.frame j) (i / 5)) → Dec (InWindow g j 0 i)
          told (yes x) = yes (e, x)
          told (no x) = no (λ y. x y.1)
  holds? (suc zero) i = by (is_load j) refl
    where
      by : (x : Bool) → is_load j ≡ x → Dec (InWindow g j 1 i)
      by true e = no (λ x. true≢false (sym e ∙ x.0))
      by false e = told (windowed.save? g.frame.sizes.stride.0 (strip_in g.frame j) (walked g.frame.sizes j.area sizes area) (stride-some g.frame.sizes sizes) (i / 5))
        where
          told : Dec (SaveCell (strip_in g.frame j) (i / 5)) → Dec (InWindow g j 1 i)
          told (yes x) = yes (e, x)
          told (no x) = no (λ y. x y.1)
  holds? (suc (suc b)) i = no (λ x. x)

  -- a row of work leaves a byte outside the window alone
  off-proj : (k i : ℕ) (l : List ℕ) → k < count_of g.frame j → ¬ InWindow g j 0 i → get_or (run (on_proj j (script g j k)) l) i 0 ≡ get_or l i 0
  unfolding work_script count_of run rows_of
  off-proj k i l h n = by (is_load j) refl h
    where
      w : Window
      w = window_in g.frame j

      by : (b : Bool) → is_load j ≡ b → k < pick b (steps_of w (uses_of g.frame)) ((strip_in g.frame j).bottom.0 - (strip_in g.frame j).top.0)
          → get_or (run (pick b (pick b (step_script (sources_by g) w (uses_of g.frame) k) (row_patch g.recs (save_table g.frame j.area j.sby j.pass) g.frame.refs (strip_in g.frame j) (j.area.top.0 + k))) []) l) i 0
          ≡ get_or l i 0
      by false e m = refl
      by true e m = step-outside (sources_by g) w (uses_of g.frame) k i (some m) (windowed.load-outside w i (λ x. n (e, x))) l
        where
          some : k < steps_of w (uses_of g.frame) → w.top.0 < w.bottom.0
          some m = let q = (within w (uses_of g.frame) k refl m).some in omega (arith, q)

  off-saved : (k i : ℕ) (l : List ℕ) → k < count_of g.frame j → work_read g.frame (sources_by g) g.recs j k ≡ 0 → ¬ InWindow g j 1 i
      → get_or (run (on_saved j (script g j k)) l) i 0 ≡ get_or l i 0
  unfolding work_script work_read count_of run strip_of
  off-saved k i l h z n = by (is_load j) refl h z
    where
      w : Strip
      w = strip_in g.frame j

      t : List RowEntry
      t = save_table g.frame j.area j.sby j.pass

      by : (b : Bool) → is_load j ≡ b → k < pick b (steps_of (window_in g.frame j) (uses_of g.frame)) (w.bottom.0 - w.top.0)
          → pick b (step_read (sources_by g) (window_in g.frame j) k) (row_read g.recs (records g.frame.sizes) t w (j.area.top.0 + k)) ≡ 0
          → get_or (run (pick b [] (pick b (step_script (sources_by g) (window_in g.frame j) (uses_of g.frame) k) (row_patch g.recs t g.frame.refs w (j.area.top.0 + k)))) l) i 0
          ≡ get_or l i 0
      by true e m r = refl
      by false e m r =
          run-outside (row_patch g.recs t g.frame.refs w (j.area.top.0 + k)) l i 0
          (windowed.save-avoids w i (j.area.top.0 + k) (row_patch g.recs t g.frame.refs w (j.area.top.0 + k)) (λ x. n (e, x)) tops.0 tops.1
          (row_inside g.recs (records g.frame.sizes) t g.frame.refs w (j.area.top.0 + k) left r))
        where
          tops : (w.top.0 ≤ j.area.top.0 + k) × (j.area.top.0 + k < w.bottom.0)
          tops = (omega arith, omega arith)

          left : w.left.0 ≤ w.limit.0
          left = (areas.cut g.frame.sizes j.area sizes area).left

  pub off-window : (k b i : ℕ) (l : List ℕ) → k < count_of g.frame j → work_read g.frame (sources_by g) g.recs j k ≡ 0 → ¬ InWindow g j b i
      → get_or (run (on_buffer b j (script g j k)) l) i 0 ≡ get_or l i 0
  unfolding run
  off-window k zero i l h z n = off-proj k i l h n
  off-window k (suc zero) i l h z n = off-saved k i l h z n
  off-window k (suc (suc b)) i l h z n = refl

-- ---- two jobs of a batch that was accepted

module _ (g : Given) (h : Handed) (same : h.frame ≡ g.frame) (i j : Job) (p : Fit h i) (q : Fit h j) where
  pub no-common : (b x : ℕ) → meets h.frame i j ≡ false → InWindow g i b x → InWindow g j b x → ⊥
  unfolding meets
  no-common b x z = apart b (subst (λ f. meets f i j ≡ false) same z)
    where
      s : well_sizes g.frame.sizes ≡ true
      s = sizes g h same i p

      apart : (b : ℕ) → meets g.frame i j ≡ false → InWindow g i b x → InWindow g j b x → ⊥
      apart zero z v w =
          loads-apart g.frame.sizes.stride.0 (window_in g.frame i) (window_in g.frame j) (framed g.frame.sizes i.area s (area g h same i p)) (framed g.frame.sizes j.area s (area g h same j q))
          (loads (is_load i) (is_load j) v.0 w.0 z) (x / 5) v.1 w.1
        where
          loads : (a b : Bool) → a ≡ true → b ≡ true
              → pick a (b && loads_meet (window_in g.frame i) (window_in g.frame j)) (not b && saves_meet (strip_in g.frame i) (strip_in g.frame j)) ≡ false
              → loads_meet (window_in g.frame i) (window_in g.frame j) ≡ false
          loads true true d e y = y
          loads true false d e y = absurd (true≢false (sym e))
          loads false b d e y = absurd (true≢false (sym d))
      apart (suc zero) z v w =
          saves-apart g.frame.sizes.stride.0 (strip_in g.frame i) (strip_in g.frame j) (walked g.frame.sizes i.area s (area g h same i p)) (walked g.frame.sizes j.area s (area g h same j q))
          (saves (is_load i) (is_load j) v.0 w.0 z) (x / 5) v.1 w.1
        where
          saves : (a b : Bool) → a ≡ false → b ≡ false
              → pick a (b && loads_meet (window_in g.frame i) (window_in g.frame j)) (not b && saves_meet (strip_in g.frame i) (strip_in g.frame j)) ≡ false
              → saves_meet (strip_in g.frame i) (strip_in g.frame j) ≡ false
          saves false false d e y = y
          saves false true d e y = absurd (true≢false e)
          saves true b d e y = absurd (true≢false d)
      apart (suc (suc b)) z v w = v

-- ---- the laws

module _ (g : Given) (d : Desk) (a : Accepted (handed_by g d) d.batch) where
  abbrev J : ℕ → Job
  J j = job_at d.batch j

  shape : Shape (plan_of g d) (buffers d)
  shape = record {
    W? = λ j c. told j c.0 c.1 (dec_lt j d.batch.n);
    apart = λ i j c h k v w. one i j c.0 c.1 h k v.1 w.1 (ℕ_discrete i j);
    ok₀ = λ b. refl;
    keeps = λ j k m h l o b. run_length (on_buffer b (J j) (script g (J j) k)) (m b) ∙ o b;
    off = λ j k m c h l o n. off-window g (handed_by g d) refl (J j) (a.each j h) k c.0 c.1 (m c.0) l ((a.each j h).reads k l) (λ v. n (h, v));
    ext = λ m t o p e. fun_ext (λ b. ext_get_or 0 (m b) (t b) (o b ∙ sym (p b)) (λ i _. e (b, i)));
  }
    where
      told : (j b i : ℕ) → Dec (j < d.batch.n) → Dec ((j < d.batch.n) × InWindow g (J j) b i)
      told j b i (no n) = no (λ v. n v.0)
      told j b i (yes h) = by (holds? g (handed_by g d) refl (J j) (a.each j h) b i)
        where
          by : Dec (InWindow g (J j) b i) → Dec ((j < d.batch.n) × InWindow g (J j) b i)
          by (yes v) = yes (h, v)
          by (no n) = no (λ v. n v.1)

      one : (i j b x : ℕ) → i < d.batch.n → j < d.batch.n → InWindow g (J i) b x → InWindow g (J j) b x → Dec (i ≡ j) → i ≡ j
      one i j b x h k v w (yes e) = e
      one i j b x h k v w (no e) = absurd (by (dec_lt i j))
        where
          by : Dec (i < j) → ⊥
          by (yes l) = no-common g (handed_by g d) refl (J i) (J j) (a.each i h) (a.each j k) b x (a.alone i j l k) v w
          by (no l) = no-common g (handed_by g d) refl (J j) (J i) (a.each j k) (a.each i h) b x (a.alone j i (omega arith) h) w v

  pub free : Free (plan_of g d) (buffers d)
  free = record {
    shape = shape;
    own = λ j k m t h l o p e c w. run-local (on_buffer c.0 (J j) (script g (J j) k)) (m c.0) (t c.0) c.1 0 (o c.0 ∙ sym (p c.0)) (e c w);
    moves = λ j x. refl;
  }
