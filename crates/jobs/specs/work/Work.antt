-- A step's row of work (document 01, "Jobs and windows"): what it reads, and what it lays over which buffer.
use Rattle.std.specs.Prelude.{ℕ, ◌+◌, List, []}
use Rattle.ground.specs.Pick.{pick}
use Rattle.ground.specs.Script.{Patch}
use Rattle.frame.specs.declared.record.Frame.{Frame}
use Rattle.frame.specs.extent.Sizes.{records}
use Rattle.motion.specs.saving.Save.{row_read, row_patch, save_table}
use Rattle.motion.specs.loading.Used.{uses_of}
use Rattle.motion.specs.loading.Fields.{Sources}
use Rattle.motion.specs.loading.Load.{step_read, step_script}
use Rattle.jobs.specs.declared.job.record.Job.{Job}
use Rattle.jobs.specs.job.Job.{is_load, window_in, strip_in}

-- STEP k's ROW OF WORK: its reads, and what it lays over the projection, or over the saved field
unfoldable pub work_read : Frame → Sources → List ℕ → Job → ℕ → ℕ
work_read f src recs j k =
    pick (is_load j) (step_read src (window_in f j) k)
    (row_read recs (records f.sizes) (save_table f j.area j.sby j.pass) (strip_in f j) (j.area.top.0 + k))

-- and its reads when it is admitted: the same
abbrev pub admit_read : Frame → Sources → List ℕ → Job → ℕ → ℕ
admit_read f src recs j k = work_read f src recs j k

unfoldable pub work_script : Frame → Sources → List ℕ → Job → ℕ → List Patch
work_script f src recs j k =
    pick (is_load j) (step_script src (window_in f j) (uses_of f) k)
    (row_patch recs (save_table f j.area j.sby j.pass) f.refs (strip_in f j) (j.area.top.0 + k))

abbrev pub on_proj : Job → List Patch → List Patch
on_proj j ps = pick (is_load j) ps []

abbrev pub on_saved : Job → List Patch → List Patch
on_saved j ps = pick (is_load j) [] ps
