-- This definition follows the code: what the temporal part requires of its caller.
use Rattle.std.specs.Prelude.{ℕ, ◌≡◌, Bool, true}
use Rattle.vector.specs.Vector.{Within}
use Rattle.spatial.specs.declared.site.block.Site.{Site}
use Rattle.spatial.specs.Code.Site.{Placed}
use Rattle.temporal.specs.declared.aim.Aim.{Aim}
use Rattle.temporal.specs.declared.sweep.Field.{Field}
use Rattle.temporal.specs.Code.Sweep.{Near, Fielded}

-- What the front of a search shows: with temporal search off, nothing is asked of the projection.
pub record TemporalRoom (on : Bool) (nproj : ℕ) (f : Field) (b : Site) (a : Aim) : Type 0 where
  pub near : on ≡ true → Near nproj f.total a
  pub field : Fielded f
  pub placed : Placed b
  pub global : Within 16383 a.gmv
