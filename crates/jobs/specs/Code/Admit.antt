-- What the routines inside an admission require: what every job's front has shown.
use Rattle.std.specs.Prelude.{ℕ, ◌≤◌, ◌<◌, ◌≡◌, true}
use Rattle.frame.specs.declared.record.Frame.{Frame}
use Rattle.frame.specs.Record.{well_frame}
use Rattle.motion.specs.saving.Area.{well_area}
use Rattle.jobs.specs.declared.job.record.Batch.{Batch}
use Rattle.jobs.specs.job.Job.{job_at}

-- the first n jobs' areas
pub record Areas (f : Frame) (b : Batch) (n : ℕ) : Type 0 where
  pub frame : well_frame f ≡ true
  pub few : n ≤ 8
  pub each : (i : ℕ) → i < n → well_area f.sizes (job_at b i).area ≡ true
