-- These definitions follow the code: what a walk's struct stands for, and what a walk requires of its caller.
use Rattle.std.specs.Prelude.{ℕ, ◌^◌, ◌≤◌, ◌<◌, eqb}
use Rattle.ground.specs.Pick.{pick}
use Rattle.spatial.specs.declared.neighbours.read.Line.{Line}
use Rattle.search.specs.declared.extra.walk.Pooled.{Pooled}
use Rattle.search.specs.Code.Pool.{pools_of}
use Rattle.search.specs.extra.Walk.{Gathering, refused, gathered}

unfoldable pub pooled : Pooled → Gathering
pooled a = pick (eqb a.answer 0) (gathered (pools_of a.pools)) (refused a.answer)

-- What a caller sees to: the line's places are no large numbers.
pub record Walked (l : Line) (limit : ℕ) : Type 0 where
  pub entry : l.entry < 2 ^ 32
  pub col : l.col.0 < 2 ^ 32
  pub short : limit ≤ 16
