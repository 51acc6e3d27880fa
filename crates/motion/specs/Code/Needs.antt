-- What the code of a load holds and requires: its uses put together one after the other, and what an admission shows of their fields.
use Rattle.std.specs.Prelude.{Option, None, Some}
use Rattle.std.specs.Prelude.{ℕ, ◌+◌, ◌-◌, ◌*◌, ◌/◌, ◌≤◌, ◌<◌, List, get_or, set, ℤ}
use Rattle.frame.specs.declared.mfmv.Mfmv.{Mfmv}
use Rattle.motion.specs.declared.saving.area.Window.{Window}
use Rattle.motion.specs.declared.loading.used.Used.{Used}
use Rattle.motion.specs.declared.loading.used.Uses.{Uses}
use Rattle.motion.specs.loading.Used.{used_as, use_at}
use Rattle.motion.specs.loading.Load.{rows_of}
use Rattle.motion.specs.Code.Places.{Bounded, Numbers}

-- the uses of a load, put together one after the other
abbrev pub pushed : Uses → Used → Uses
pushed us u = record { n = us.n + 1; at = set us.at us.n u }

abbrev pub taken_in : Uses → Mfmv → Option ℤ → Uses
taken_in us m None = us
taken_in us m (Some z) = pushed us (used_as m z)

-- what a row of use i needs: one of the three fields, which holds the window's rows
pub record Fielded (lengths : List ℕ) (w : Window) (i : ℕ) : Type 0 where
  pub bounded : Bounded w
  pub place : i < 3
  pub source : 5 * (w.bottom.0 * w.stride.0) ≤ get_or lengths i 0

-- what step k reads: nothing, or row `top + k % rows` of use `k / rows - 1`
pub record Readable (lengths : List ℕ) (w : Window) (k : ℕ) : Type 0 where
  pub low : w.bottom.0 ≤ 65536
  pub some : 0 < rows_of w
  pub field : 0 < k / rows_of w → Fielded lengths w (k / rows_of w - 1)

-- what every step of a load needs
pub record Fields (lengths : List ℕ) (w : Window) (us : Uses) : Type 0 where
  pub bounded : Bounded w
  pub few : us.n ≤ 3
  pub each : (i : ℕ) → i < us.n → Fielded lengths w i
  pub numbers : (i : ℕ) → i < us.n → Numbers (use_at us i).motion
