-- Demand 3, in the keeper's words and in formulas. "One to eight load and save jobs admitted together may be stepped in any order:
-- each window holds what that job's first rows of work leave there, every other cell is as lent; all finished equals all run whole in
-- list order." Proved in proofs/Ordered: `any_order`, `all_finished`, and `no-matter`, that two lists of steps which take each job
-- equally far leave the same desk.
use Rattle.std.specs.Prelude.{ℕ, zero, suc, ◌≤◌, ◌<◌, ◌/◌, min, ◌≡◌, true, false, List, [], ltb, length, get_or}
use Rattle.ground.specs.Pick.{pick}
use Rattle.ground.specs.Script.{Patch, run}
use Rattle.ground.specs.Span.{span}
use Rattle.ground.specs.Window.{named}
use Rattle.motion.specs.saving.Save.{save_script}
use Rattle.motion.specs.loading.Load.{load_script}
use Rattle.jobs.specs.declared.job.record.Job.{Job}
use Rattle.jobs.specs.job.Job.{job_at, is_load, window_in, strip_in, count_of}
use Rattle.jobs.specs.job.Share.{LoadCell, SaveCell}
use Rattle.jobs.specs.work.Work.{work_script, on_proj, on_saved}
use Rattle.jobs.specs.Admit.{batch_answer}
use Rattle.jobs.specs.Step.{done_number}
use Rattle.order.specs.steps.Turn.{with_done}
use Rattle.order.specs.Desk.{Given, sources_by, Desk, Buffers, buffers, handed_by, answer_to, turn}

-- THE PREMISES: admission accepts the batch, and none of its jobs is stepped yet. That there are one to eight jobs is part of
-- admission; a batch has eight places.
pub record Admitted (g : Given) (d : Desk) : Type 0 where
  pub accepted : batch_answer (handed_by g d) d.batch ≡ 0
  pub unstepped : (j : ℕ) → j < d.batch.n → (job_at d.batch j).done ≡ 0
  pub places : length d.batch.jobs ≡ 8

-- THE WINDOWS, byte by byte (a cell has five): byte i of buffer b is in job j's window. A load's window lies in the projection, a save's in the saved field.
-- `LoadCell` and `SaveCell` are document 01's: cut rows modulo 16 in the tile row's part, times columns; cut rows, times columns to the limit.
abbrev pub InWindow : Given → Job → (b i : ℕ) → Type 0
InWindow g j zero i = (is_load j ≡ true) × LoadCell (window_in g.frame j) (i / 5)
InWindow g j (suc zero) i = (is_load j ≡ false) × SaveCell (strip_in g.frame j) (i / 5)
InWindow g j (suc (suc b)) i = ⊥

-- what a job's first k rows of work lay over its buffer
abbrev pub first_rows : Given → Job → ℕ → List Patch
first_rows g j k = span (work_script g.frame (sources_by g) g.recs j) 0 k

-- how many rows of work job j has done after the steps ks: as many as it had steps, up to its count
abbrev pub done_by : Given → Desk → List ℕ → ℕ → ℕ
done_by g d ks j = min (named j ks) (count_of g.frame (job_at d.batch j))

-- AFTER ANY LIST OF STEPS ks, repeats, finished jobs and wrong numbers included. `e` is how the desk then stands; `d` is how it was lent.
pub record AnyOrder (g : Given) (d : Desk) (ks : List ℕ) (e : Desk) : Type 0 where
  -- each record is as admitted, but for its steps done; there are as many jobs as before, and the places behind the last are as they were
  pub record_of : (j : ℕ) → j < d.batch.n → job_at e.batch j ≡ with_done (job_at d.batch j) (done_by g d ks j)
  pub many : e.batch.n ≡ d.batch.n
  pub behind : (j : ℕ) → d.batch.n ≤ j → job_at e.batch j ≡ job_at d.batch j
  pub places : length e.batch.jobs ≡ length d.batch.jobs
  -- in whichever buffer: each window holds what that job's first rows of work leave there
  pub windows : (j b i : ℕ) → j < d.batch.n → InWindow g (job_at d.batch j) b i
      → get_or (buffers e b) i 0 ≡ get_or (run (first_rows g (job_at d.batch j) (done_by g d ks j)) (buffers d b)) i 0
  -- every other byte is as lent
  pub rest : (b i : ℕ) → ((j : ℕ) → j < d.batch.n → ¬ InWindow g (job_at d.batch j) b i) → get_or (buffers e b) i 0 ≡ get_or (buffers d b) i 0
  pub lengths : (b : ℕ) → length (buffers e b) ≡ length (buffers d b)
  -- no step that names a job of the batch is refused: it moves while rows are left, and then says "done"
  pub answers : (k : ℕ) → k < d.batch.n → answer_to g k e ≡ pick (ltb (done_by g d ks k) (count_of g.frame (job_at d.batch k))) 0 done_number
  -- one that names none is refused and changes nothing
  pub no-job : (k : ℕ) → d.batch.n ≤ k → (answer_to g k e ≡ 12) × (turn g k e ≡ e)

-- ALL RUN WHOLE IN LIST ORDER: what a job's own entry, `load_tmvs` or `save_tmvs`, lays; that as far as it is laid over buffer b; and
-- a buffer once the first n jobs are so run
abbrev pub whole_script : Given → Desk → Job → List Patch
whole_script g d j =
    pick (is_load j) (load_script g.fields g.frame j.area g.lent (length d.proj))
    (save_script g.recs g.frame j.area j.sby j.pass (length d.saved))

abbrev pub on_buffer : (b : ℕ) → Job → List Patch → List Patch
on_buffer zero j ps = on_proj j ps
on_buffer (suc zero) j ps = on_saved j ps
on_buffer (suc (suc b)) j ps = []

abbrev pub all_whole : Given → Desk → ℕ → Buffers
all_whole g d zero b = buffers d b
all_whole g d (suc n) b = run (on_buffer b (job_at d.batch n) (whole_script g d (job_at d.batch n))) (all_whole g d n b)

-- the steps ks name each job often enough to finish it
abbrev pub Finishes : Given → Desk → List ℕ → Type 0
Finishes g d ks = (j : ℕ) → j < d.batch.n → count_of g.frame (job_at d.batch j) ≤ named j ks

pub record Whole (g : Given) (d e : Desk) : Type 0 where
  pub each : (b : ℕ) → buffers e b ≡ all_whole g d d.batch.n b
