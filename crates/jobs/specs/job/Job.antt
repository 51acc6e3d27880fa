-- A job's record (document 01, "Jobs and windows"; refusals 12, 1, 3, 4 and 5): its kind, its count of steps, what is judged before its reads; and a
-- batch of them.
use Rattle.std.specs.Prelude.{ℕ, ◌-◌, Bool, ◌&&◌, not, eqb, leb, ltb, get_or}
use Rattle.ground.specs.Below.{all_below}
use Rattle.ground.specs.Pick.{pick}
use Rattle.frame.specs.declared.record.Frame.{Frame}
use Rattle.frame.specs.Record.{well_frame}
use Rattle.frame.specs.extent.Sizes.{one_to}
use Rattle.rows.specs.Setup.{is_pass}
use Rattle.motion.specs.declared.loading.fields.Lent.{Lent}
use Rattle.motion.specs.declared.saving.area.Strip.{Strip}
use Rattle.motion.specs.declared.saving.area.Window.{Window}
use Rattle.motion.specs.saving.Area.{well_area, strip_of, window_of}
use Rattle.motion.specs.saving.Save.{save_front}
use Rattle.motion.specs.loading.Used.{uses_of}
use Rattle.motion.specs.loading.Fields.{well_lent}
use Rattle.motion.specs.loading.Load.{steps_of, load_front}
use Rattle.jobs.specs.declared.job.record.Job.{Job}
use Rattle.jobs.specs.declared.job.record.Batch.{Batch}
use Rattle.jobs.specs.declared.job.record.Lengths.{Lengths}

abbrev pub is_load : Job → Bool
is_load j = eqb j.kind 0

-- a kind of 0 or 1, a pass of 1 or 2
unfoldable pub well_kind : Job → Bool
well_kind j = leb j.kind 1 && is_pass j.pass

-- THE COUNT: a load's rows times one more than its used references; a save's rows. Rows are those after the cut.
abbrev pub window_in : Frame → Job → Window
window_in f j = window_of f.sizes j.area

abbrev pub strip_in : Frame → Job → Strip
strip_in f j = strip_of f.sizes j.area

unfoldable pub count_of : Frame → Job → ℕ
count_of f j = pick (is_load j) (steps_of (window_in f j) (uses_of f)) ((strip_in f j).bottom.0 - (strip_in f j).top.0)

-- what its load or its save judges by lengths: 4 and 5
abbrev pub own_front : Frame → Lent → Lengths → Job → ℕ
own_front f l n j =
    pick (is_load j) (load_front f j.area l n.fields n.proj) (save_front f j.area j.pass n.recs n.saved)

-- what is judged of one job before its reads: 1; 3; more steps done than there are; then its own, 4 and 5
unfoldable pub job_front : Frame → Lent → Lengths → Job → ℕ
job_front f l n j =
    pick (not (well_frame f && well_lent l)) 1
    (pick (not (well_area f.sizes j.area)) 3
    (pick (ltb (count_of f j) j.done) 12
    (own_front f l n j)))

-- a batch's job by number; and what a read past the eight places would give
abbrev pub no_job : Job
no_job = record {
  kind = 0;
  area = record { tile = 0; left = record { 0 = 0 }; right = record { 0 = 0 }; top = record { 0 = 0 }; bottom = record { 0 = 0 } };
  sby = 0;
  pass = 0;
  done = 0;
}

abbrev pub job_at : Batch → ℕ → Job
job_at b i = get_or b.jobs i no_job

-- What a batch is judged by first, over all its jobs (refusal 12): one to eight of them, each of a known kind and pass.
unfoldable pub well_batch : Batch → Bool
well_batch b = one_to 8 b.n && all_below b.n (λ i. well_kind (job_at b i))
