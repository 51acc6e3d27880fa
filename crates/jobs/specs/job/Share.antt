-- Windows, and refusal 11: two jobs' windows share a cell.
use Rattle.std.specs.Prelude.{ℕ, ◌+◌, ◌-◌, ◌*◌, ◌%◌, ◌≤◌, ◌<◌, ◌≡◌, Bool, ◌&&◌, ◌||◌, not, eqb, ltb}
use Rattle.ground.specs.Pick.{pick}
use Rattle.frame.specs.declared.record.Frame.{Frame}
use Rattle.motion.specs.declared.saving.area.Strip.{Strip}
use Rattle.motion.specs.declared.saving.area.Window.{Window}
use Rattle.motion.specs.landing.Lands.{spot}
use Rattle.jobs.specs.declared.job.record.Job.{Job}
use Rattle.jobs.specs.job.Job.{is_load, window_in, strip_in}

-- cell c of the projection is in a load's window: its cut rows modulo 16, in its tile row's part, times its columns
pub record LoadCell (w : Window) (c : ℕ) : Type 0 where
  pub row : ℕ
  pub col : ℕ
  pub from : w.top.0 ≤ row
  pub to : row < w.bottom.0
  pub left : w.left.0 ≤ col
  pub right : col < w.right.0
  pub is : c ≡ spot w row col

-- cell c of the saved field is in a save's window: its cut rows times its columns to its limit
pub record SaveCell (w : Strip) (c : ℕ) : Type 0 where
  pub row : ℕ
  pub col : ℕ
  pub from : w.top.0 ≤ row
  pub to : row < w.bottom.0
  pub left : w.left.0 ≤ col
  pub right : col < w.limit.0
  pub is : c ≡ row * w.stride.0 + col

-- a .. e and b .. f share a number
unfoldable pub overlap : (a e b f : ℕ) → Bool
overlap a e b f = (ltb a e && ltb b f) && (ltb a f && ltb b e)

-- b is, modulo 16, one of the n numbers from a on
unfoldable pub within16 : (a n b : ℕ) → Bool
within16 a n b = ltb ((b + 16 - a % 16) % 16) n

-- a .. e and b .. f, at most 16 numbers each, share one modulo 16: then the first of the one is among the other's
unfoldable pub overlap16 : (a e b f : ℕ) → Bool
overlap16 a e b f = (ltb a e && ltb b f) && (within16 a (e - a) b || within16 b (f - b) a)

-- proofs/Shared has both say what they should: true exactly where some cell is in both windows
unfoldable pub loads_meet : Window → Window → Bool
loads_meet w v =
    eqb w.part v.part
    && (overlap16 w.top.0 w.bottom.0 v.top.0 v.bottom.0 && overlap w.left.0 w.right.0 v.left.0 v.right.0)

unfoldable pub saves_meet : Strip → Strip → Bool
saves_meet w v = overlap w.top.0 w.bottom.0 v.top.0 v.bottom.0 && overlap w.left.0 w.limit.0 v.left.0 v.limit.0

-- a load and a save write to two buffers
unfoldable pub meets : Frame → Job → Job → Bool
meets f i j = pick (is_load i) (is_load j && loads_meet (window_in f i) (window_in f j)) (not (is_load j) && saves_meet (strip_in f i) (strip_in f j))
