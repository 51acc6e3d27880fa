-- What the routines inside a step require: what a job's front has shown.
use Rattle.std.specs.Prelude.{ℕ, ◌+◌, ◌*◌, ◌≤◌, ◌≡◌, true, false, List}
use Rattle.frame.specs.declared.record.Frame.{Frame}
use Rattle.frame.specs.Record.{well_frame}
use Rattle.frame.specs.extent.Sizes.{saved_cells}
use Rattle.motion.specs.declared.saving.area.Area.{Area}
use Rattle.motion.specs.saving.Area.{well_area, window_of}
use Rattle.motion.specs.Code.Rooms.{Ready}
use Rattle.motion.specs.loading.Used.{uses_of}
use Rattle.motion.specs.Code.Needs.{Fields}
use Rattle.jobs.specs.declared.job.record.Job.{Job}
use Rattle.jobs.specs.job.Job.{is_load, window_in}

pub record Loads (f : Frame) (a : Area) (lengths : List ℕ) : Type 0 where
  pub frame : well_frame f ≡ true
  pub area : well_area f.sizes a ≡ true
  pub fields : Fields lengths (window_of f.sizes a) (uses_of f)

-- to read
pub record Able (f : Frame) (j : Job) (lengths : List ℕ) (nrecs : ℕ) : Type 0 where
  pub loads : is_load j ≡ true → Loads f j.area lengths
  pub saves : is_load j ≡ false → Ready nrecs f j.area

-- to write
pub record Room (f : Frame) (j : Job) (nproj nsaved : ℕ) : Type 0 where
  pub proj : is_load j ≡ true → 5 * ((window_in f j).part + 16 * (window_in f j).stride.0) ≤ nproj
  pub saved : is_load j ≡ false → 5 * saved_cells f.sizes ≤ nsaved
