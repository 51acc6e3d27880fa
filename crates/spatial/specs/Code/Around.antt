-- These definitions follow the code: what the struct of both sides stands for, and what inner routines require of their callers.
use Rattle.std.specs.Prelude.{ℕ, ◌^◌, ◌<◌, eqb}
use Rattle.ground.specs.Pick.{pick}
use Rattle.stack.specs.Code.Found.{Found, view}
use Rattle.spatial.specs.declared.around.near.Around.{Around}
use Rattle.spatial.specs.around.Around.{Went, refused, on}

unfoldable pub went : Around → Found → Went
went a s = pick (eqb a.answer 0) (on (view s) a.above a.left) (refused a.answer)

-- What a caller sees to.
pub record Light (heft : ℕ) : Type 0 where
  pub light : heft < 2 ^ 24
