-- What the routines inside a save require: the bounds that its admission has shown.
use Rattle.std.specs.Prelude.{ℕ, ◌+◌, ◌*◌, ◌≤◌, ◌<◌, ◌≡◌, true}
use Rattle.frame.specs.declared.record.Frame.{Frame}
use Rattle.frame.specs.extent.Sizes.{records}
use Rattle.frame.specs.Record.{well_frame}
use Rattle.motion.specs.declared.saving.area.Area.{Area}
use Rattle.motion.specs.declared.saving.area.Strip.{Strip}
use Rattle.motion.specs.saving.Area.{well_area}

-- of row y
pub record RowRoom (nrecs total nfield : ℕ) (w : Strip) (y : ℕ) : Type 0 where
  pub cols : w.end.0 ≤ w.limit.0
  pub wide : w.limit.0 ≤ w.stride.0
  pub narrow : w.stride.0 ≤ 65536
  pub low : y < 65536
  pub records : 12 * total ≤ nrecs
  pub cells : 5 * (y * w.stride.0 + w.stride.0) ≤ nfield

pub record RowsRoom (nrecs total nfield : ℕ) (w : Strip) : Type 0 where
  pub cols : w.end.0 ≤ w.limit.0
  pub wide : w.limit.0 ≤ w.stride.0
  pub narrow : w.stride.0 ≤ 65536
  pub low : w.bottom.0 ≤ 65536
  pub records : 12 * total ≤ nrecs
  pub cells : 5 * (w.bottom.0 * w.stride.0) ≤ nfield

-- what stands before the reads, of the records' length alone
pub record Ready (nrecs : ℕ) (f : Frame) (a : Area) : Type 0 where
  pub frame : well_frame f ≡ true
  pub area : well_area f.sizes a ≡ true
  pub recs : 12 * records f.sizes ≤ nrecs
