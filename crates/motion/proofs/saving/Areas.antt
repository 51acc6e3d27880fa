-- What a well-formed area of a frame tells, for the arithmetic of every routine that works on one.
-- Assumes nothing.
use mathlib.Core.Path.{◌≡◌, refl}
use mathlib.Core.Bool.{Bool, true, false}
use Prim.Native.Nat.{◌+◌, ◌-◌, ◌*◌, ◌≤◌}
use native.Mathlib.Omega.{arith}
use lib.Dec.{leb, ltb}
use borrow.Author.Tests.{leb-true, ltb-true}
use Rattle.ground.specs.Pick.{pick}
use Rattle.ground.proofs.Picks.{both}
use Rattle.frame.specs.declared.extent.sizes.Sizes.{Sizes}
use Rattle.frame.specs.extent.Sizes.{most_cells, part_of, projected_cells, well_sizes}
use Rattle.frame.proofs.extent.Sizing as sizing
use Rattle.rows.specs.Setup.{in_frame}
use Rattle.rows.proofs.Parts.{in_frame_lem}
use Rattle.motion.specs.declared.saving.area.Area.{Area}
use Rattle.motion.specs.saving.Area.{well_area, bottom_of, end_of, limit_of}

-- as asked for, before any cut
pub record Asked (s : Sizes) (a : Area) : Type 0 where
  pub columns : a.left.0 ≤ a.right.0
  pub within : a.right.0 ≤ s.stride.0
  pub rows : a.top.0 ≤ a.bottom.0
  pub few : a.bottom.0 - a.top.0 ≤ 16
  pub tile : in_frame s a.tile ≡ true

pub asked : (s : Sizes) (a : Area) → well_area s a ≡ true → Asked s a
unfolding well_area
asked s a e =
    let p4 = both _ (in_frame s a.tile) e in
    let p3 = both _ (leb (a.bottom.0 - a.top.0) 16) p4.0 in
    let p2 = both _ (leb a.top.0 a.bottom.0) p3.0 in
    let p1 = both (leb a.left.0 a.right.0) (leb a.right.0 s.stride.0) p2.0 in
    record {
      columns = leb-true _ _ p1.0;
      within = leb-true _ _ p1.1;
      rows = leb-true _ _ p2.1;
      few = leb-true _ _ p3.1;
      tile = p4.1;
    }

-- a frame's cells: a row's columns lie in its stride, and neither is long
pub record Small (s : Sizes) : Type 0 where
  pub columns : s.iw8.0 ≤ s.stride.0
  pub stride : s.stride.0 ≤ most_cells
  pub rows : s.ih8.0 ≤ most_cells

pub small : (s : Sizes) → well_sizes s ≡ true → Small s
small s e =
    let f = sizing.fits s e in
    record {
      columns = omega (arith, f.iw8, f.stride, sizing.eighths-stride s.width);
      stride = omega (arith, f.stride, sizing.stride_most s.width f.limits.width.fits);
      rows = omega (arith, f.ih8, sizing.eighths-most s.height f.limits.height.fits);
    }

-- the cuts: a save's columns start and end at their limit at the latest, and that lies in the stride; rows end in the frame
pub record Cut (s : Sizes) (a : Area) : Type 0 where
  pub left : a.left.0 ≤ limit_of s a
  pub end : end_of s a ≤ limit_of s a
  pub limit : limit_of s a ≤ s.stride.0
  pub right : end_of s a ≤ a.right.0
  pub bottom : bottom_of s a ≤ s.ih8.0
  pub few : bottom_of s a - a.top.0 ≤ 16

pub cut : (s : Sizes) (a : Area) → well_sizes s ≡ true → well_area s a ≡ true → Cut s a
unfolding bottom_of end_of limit_of
cut s a e h =
    let k = small s e in
    let q = asked s a h in
    let l = by (ltb (end_of s a) s.iw8.0) refl (small s e) (asked s a h) in
    record { left = l.0; end = l.1; limit = l.2; right = omega arith; bottom = omega arith; few = omega arith }
  where
    by : (b : Bool) → ltb (end_of s a) s.iw8.0 ≡ b → Small s → Asked s a
        → (a.left.0 ≤ pick b (end_of s a) s.stride.0) × (end_of s a ≤ pick b (end_of s a) s.stride.0) × (pick b (end_of s a) s.stride.0 ≤ s.stride.0)
    by true t k q = let u = ltb-true (end_of s a) s.iw8.0 t in (omega arith, omega arith, omega arith)
    by false t k q = (omega arith, omega arith, omega arith)

-- the sixteen rows of a tile row's part lie in the projection
pub part-fits : (s : Sizes) (a : Area) → well_sizes s ≡ true → well_area s a ≡ true
    → 16 * (part_of s a.tile * s.stride.0 + s.stride.0) ≤ projected_cells s
unfolding projected_cells
part-fits s a e h =
    let k = sizing.part-fits s a.tile (sizing.fits s e) (in_frame_lem s a.tile (asked s a h).tile) in
    omega arith
