-- These definitions follow the code: what inner routines require of their callers.
use Rattle.std.specs.Prelude.{ℕ, ◌+◌, ◌*◌, ◌^◌, ◌≤◌, ◌<◌, nat_abs}
use Rattle.frame.specs.extent.Sizes.{most_cells}
use Rattle.temporal.specs.declared.aim.Aim.{Aim}
use Rattle.temporal.specs.declared.sweep.Field.{Field}

-- What a caller sees to: the stack takes `more` weight,
pub record Light (more heft : ℕ) : Type 0 where
  pub light : heft + more < 2 ^ 32

-- the listed cells are lent, and no reference is farther than 31,
pub record Near (nproj total : ℕ) (a : Aim) : Type 0 where
  pub cells : 5 * total ≤ nproj
  pub first : nat_abs a.first ≤ 31
  pub second : nat_abs a.second ≤ 31

-- and a field's numbers are no large ones
pub record Fielded (f : Field) : Type 0 where
  pub first : f.first < 2 ^ 40
  pub some : 1 ≤ f.stride.0
  pub stride : f.stride.0 ≤ most_cells
