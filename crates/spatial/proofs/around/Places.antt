-- The lines of neighbours lie where a scan may look, and their spans are what it may be asked for.
-- Assumes nothing.
use mathlib.Core.Path.{◌≡◌, refl}
use mathlib.Core.Bool.{Bool, true, false}
use Prim.Native.Nat.{ℕ, ◌+◌, ◌-◌, ◌*◌, ◌^◌, ◌≤◌, ◌<◌}
use native.Mathlib.Omega.{arith}
use lib.Dec.{ltb, lit≤}
use Rattle.ground.specs.Pick.{pick}
use Rattle.spatial.specs.declared.site.block.Site.{Site}
use Rattle.spatial.specs.site.Site.{side_of, behind_of, depth_of}
use Rattle.spatial.specs.Code.Site.{Placed}
use Rattle.spatial.proofs.site.Sides.{side-most, limit-most, depth-most, depth-inside}
use Rattle.spatial.specs.declared.neighbours.read.Line.{Line}
use Rattle.spatial.specs.Code.Scan.{Room, Fair}
use Rattle.spatial.specs.around.Lines.{row_of, odd_of, step_of, near_line, far_line, near_span, far_span}

-- the block's row among the 32, and the odd place of a pair, are no large numbers
pub row-most : (b : Site) → row_of b ≤ 31
unfolding row_of
row-most b = omega arith

pub odd-most : (v : ℕ) → odd_of v ≤ v + 1
unfolding odd_of
odd-most v = omega arith

-- the lines to the left lie in the frame
pub inside : (down : Bool) (b : Site) → down ≡ true → 2 * depth_of down b ≤ b.x.0 + 1
unfolding behind_of
inside down b e = rw e (omega (arith, depth-inside true b))

-- a line goes the way that was asked for
pub near_down : (down : Bool) (b : Site) → (near_line down b).down ≡ down
unfolding near_line
near_down true b = refl
near_down false b = refl

pub far-down : (down : Bool) (b : Site) (n : ℕ) → (far_line down b n).down ≡ down
unfolding far_line
far-down true b n = refl
far-down false b n = refl

pub step_fits : (side least : ℕ) → 1 ≤ least → least ≤ 4 → (1 ≤ step_of side least) × (step_of side least ≤ 4)
unfolding step_of
step_fits side least h i = by (ltb side 16)
  where
    by : (t : Bool) → (1 ≤ pick t least 4) × (pick t least 4 ≤ 4)
    by true = (h, i)
    by false = (lit≤ tt, lit≤ tt)

-- what a scan asks of its line
module _ (b : Site) (p : Placed b) where
  room : (m : Line) → m.entry < 2 ^ 32 → m.col.0 < 2 ^ 32 → Room m
  room m e c = record { entry = e; col = c }

  pub near-room : (down : Bool) → Room (near_line down b)
  unfolding near_line
  near-room true = room _ (omega (arith, row-most b)) (omega (arith, p.before, p.wide))
  near-room false = room _ (omega (arith, row-most b)) (omega (arith, p.before, p.wide))

  pub far-room : (down : Bool) (n : ℕ) → Room (far_line down b n)
  unfolding far_line
  far-room true n =
      room _ (omega (arith, row-most b, odd-most (row_of b))) (omega (arith, odd-most (b.x.0 + 1 - 2 * n), p.before, p.wide))
  far-room false n = room _ (omega (arith, row-most b)) (omega (arith, odd-most b.x.0, p.before, p.wide))

-- and of its span
module _ {heft : ℕ} (l : heft < 2 ^ 30) (b : Site) (p : Placed b) (down : Bool) where
  pub near-fair : Fair heft (near_span down b)
  unfolding near_span
  near-fair =
      let s = step_fits (side_of down b) 1 (lit≤ tt) (lit≤ tt) in
      record { light = l; size = side-most down b p; span = limit-most down b; rows = depth-most down b; one = s.0; few = s.1 }

  pub far-fair : (n : ℕ) → 2 ≤ n → Fair heft (far_span down b n)
  unfolding far_span
  far-fair n h =
      let s = step_fits (side_of down b) 2 (lit≤ tt) (lit≤ tt) in
      record { light = l; size = side-most down b p; span = limit-most down b; rows = omega (arith, depth-most down b); one = s.0; few = s.1 }
