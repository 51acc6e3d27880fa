-- What well-formed sizes tell, for the arithmetic of every function that indexes a buffer.
-- Assumes nothing.
use mathlib.Core.Path.{◌≡◌, sym, ap, ap₂, ◌∙◌}
use mathlib.Core.Bool.{Bool, true, false}
use Prim.Native.Nat.{ℕ, ◌+◌, ◌*◌, ◌^◌, ◌≤◌, ◌<◌}
use native.Mathlib.Nat.{mul-le-mul, zero-mul, mul-one, mul_comm}
use native.Mathlib.Omega.{arith}
use lib.Dec.{leb, ltb}
use borrow.Author.Tests.{leb-true, eqb-true, eq-eqb, ne_eqb, le-ltb, lt-ltb}
use Rattle.ground.specs.Pick.{pick}
use Rattle.ground.proofs.Picks.{both}
use Rattle.ground.proofs.Diffs.{Which, more, less, which}
use Rattle.ground.proofs.Products.{row_fits}
use Rattle.frame.specs.declared.extent.sizes.Sizes.{Sizes}
use Rattle.frame.specs.extent.Sizes as sizes

pub record OneTo (most n : ℕ) : Type 0 where
  pub some : 1 ≤ n
  pub fits : n ≤ most

one-to : (most n : ℕ) → sizes.one_to most n ≡ true → OneTo most n
unfolding sizes.one_to
one-to most n h = let p = both (leb 1 n) (leb n most) h in record { some = leb-true 1 n p.0; fits = leb-true n most p.1 }

pub record Limited (w h r t f : ℕ) : Type 0 where
  pub width : OneTo sizes.most_samples w
  pub height : OneTo sizes.most_samples h
  pub rows : OneTo sizes.most_tile_rows r
  pub tiles : OneTo sizes.most_threads t
  pub frames : OneTo sizes.most_threads f

pub limited : (w h r t f : ℕ) → sizes.limits w h r t f ≡ true → Limited w h r t f
unfolding sizes.limits
limited w h r t f e =
    let p4 = both _ _ e in
    let p3 = both _ _ p4.0 in
    let p2 = both _ _ p3.0 in
    let p1 = both _ _ p2.0 in
    record {
      width = one-to sizes.most_samples w p1.0;
      height = one-to sizes.most_samples h p1.1;
      rows = one-to sizes.most_tile_rows r p2.1;
      tiles = one-to sizes.most_threads t p3.1;
      frames = one-to sizes.most_threads f p4.1;
    }

-- the stride of a frame that is not too wide, and its width in eighths below it
pub stride_most : (w : ℕ) → w ≤ sizes.most_samples → sizes.stride_of w ≤ sizes.most_cells
unfolding sizes.stride_of
stride_most w h = omega arith

pub eighths-most : (n : ℕ) → n ≤ sizes.most_samples → sizes.eighths n ≤ sizes.most_cells
unfolding sizes.eighths
eighths-most n h = omega arith

pub eighths-some : (n : ℕ) → 1 ≤ n → 1 ≤ sizes.eighths n
unfolding sizes.eighths
eighths-some n h = omega arith

pub eighths-stride : (w : ℕ) → sizes.eighths w ≤ sizes.stride_of w
unfolding sizes.eighths sizes.stride_of
eighths-stride w = omega arith

pub parts-most : (r t : ℕ) → OneTo sizes.most_tile_rows r → sizes.parts_of r t ≤ sizes.most_tile_rows
unfolding sizes.parts_of
parts-most r t o = by (ltb 1 t)
  where
    by : (b : Bool) → pick b r 1 ≤ sizes.most_tile_rows
    by true = o.fits
    by false = omega arith

pub blocks-most : (w r t : ℕ) → w ≤ sizes.most_samples → OneTo sizes.most_tile_rows r → sizes.stride_of w * sizes.parts_of r t ≤ sizes.most_cells * sizes.most_tile_rows
blocks-most w r t h o = mul-le-mul {n₂ = sizes.most_cells} {m₂ = sizes.most_tile_rows} (stride_most w h) (parts-most r t o)

pub passes-most : (f : ℕ) → sizes.passes_of f ≤ 2
unfolding sizes.passes_of
passes-most f = by (ltb 1 f)
  where
    by : (b : Bool) → pick b 2 1 ≤ 2
    by true = omega arith
    by false = omega arith

pub passes-some : (f : ℕ) → 1 ≤ sizes.passes_of f
unfolding sizes.passes_of
passes-some f = by (ltb 1 f)
  where
    by : (b : Bool) → 1 ≤ pick b 2 1
    by true = omega arith
    by false = omega arith

-- all that a test of the sizes tells
pub record Fits (s : Sizes) : Type 0 where
  pub limits : Limited s.width s.height s.tile_rows s.n_tile_threads s.n_frame_threads
  pub superblock : sizes.superblock s.sbsz.0 ≡ true
  pub iw8 : s.iw8.0 ≡ sizes.eighths s.width
  pub ih8 : s.ih8.0 ≡ sizes.eighths s.height
  pub iw4 : s.iw4.0 ≡ 2 * sizes.eighths s.width
  pub ih4 : s.ih4.0 ≡ 2 * sizes.eighths s.height
  pub stride : s.stride.0 ≡ sizes.stride_of s.width
  pub blocks : s.n_blocks ≡ sizes.stride_of s.width * sizes.parts_of s.tile_rows s.n_tile_threads

pub fits : (s : Sizes) → sizes.well_sizes s ≡ true → Fits s
unfolding sizes.well_sizes sizes.follows
fits s e =
    let p = both _ _ e in
    let q = both _ _ p.0 in
    let f5 = both _ _ p.1 in
    let f4 = both _ _ f5.0 in
    let f3 = both _ _ f4.0 in
    let f2 = both _ _ f3.0 in
    let f1 = both _ _ f2.0 in
    record {
      limits = limited _ _ _ _ _ q.0;
      superblock = q.1;
      iw8 = eqb-true _ _ f1.0;
      ih8 = eqb-true _ _ f1.1;
      iw4 = eqb-true _ _ f2.1;
      ih4 = eqb-true _ _ f3.1;
      stride = eqb-true _ _ f4.1;
      blocks = eqb-true _ _ f5.1;
    }

-- a row of records is counted in the code's numbers
pub stride-small : (s : Sizes) → sizes.well_sizes s ≡ true → s.stride.0 < 2 ^ 63
stride-small s e = let f = fits s e in omega (arith, f.stride, stride_most s.width f.limits.width.fits)

pub saved-most : (s : Sizes) → Fits s → s.stride.0 * s.ih8.0 ≤ sizes.most_cells * sizes.most_cells
saved-most s f =
    let w = stride_most s.width f.limits.width.fits in
    let h = eighths-most s.height f.limits.height.fits in
    mul-le-mul {n₂ = sizes.most_cells} {m₂ = sizes.most_cells} (omega (arith, f.stride)) (omega (arith, f.ih8))

pub records-most : (s : Sizes) → Fits s → 70 * s.n_blocks * sizes.passes_of s.n_frame_threads ≤ 70 * (sizes.most_cells * sizes.most_tile_rows) * 2
records-most s f =
    let b = blocks-most s.width s.tile_rows s.n_tile_threads f.limits.width.fits f.limits.rows in
    mul-le-mul {n₂ = 70 * (sizes.most_cells * sizes.most_tile_rows)} {m₂ = 2} (omega (arith, f.blocks)) (passes-most s.n_frame_threads)

-- A tile row of the frame has its part in the buffers: the row of its part ends within the row of all parts.
pub part-fits : (s : Sizes) (i : ℕ) → Fits s → sizes.part_of s i < s.tile_rows → sizes.part_of s i * s.stride.0 + s.stride.0 ≤ s.n_blocks
unfolding sizes.part_of sizes.parts_of
part-fits s i f h = by (which 1 s.n_tile_threads)
  where
    by : Which 1 s.n_tile_threads → sizes.part_of s i * s.stride.0 + s.stride.0 ≤ s.n_blocks
    by (more l) =
        let one : s.n_tile_threads ≡ 1 = omega (arith, f.limits.tiles.some) in
        let p : sizes.part_of s i * s.stride.0 ≡ 0 = ap (λ (b : Bool). pick b 0 i * s.stride.0) (eq-eqb _ 1 one) ∙ zero-mul s.stride.0 in
        let q : sizes.stride_of s.width * sizes.parts_of s.tile_rows s.n_tile_threads ≡ sizes.stride_of s.width =
        ap (λ (b : Bool). sizes.stride_of s.width * pick b s.tile_rows 1) (le-ltb 1 _ l) ∙ mul-one (sizes.stride_of s.width) in
        omega (arith, f.blocks, f.stride)
    by (less l) =
        let some : (s.n_tile_threads ≡ 1 → ⊥) = λ e. absurd (omega arith) in
        let k : sizes.part_of s i ≡ i = ap (λ (b : Bool). pick b 0 i) (ne_eqb _ 1 some) in
        let p : sizes.part_of s i * s.stride.0 ≡ i * s.stride.0 = ap (λ (n : ℕ). n * s.stride.0) k in
        let q : s.n_blocks ≡ s.tile_rows * s.stride.0 =
        f.blocks ∙ ap₂ (λ (a n : ℕ). a * n) (sym f.stride) (ap (λ (b : Bool). pick b s.tile_rows 1) (lt-ltb 1 _ l)) ∙ mul_comm s.stride.0 s.tile_rows in
        omega (arith, row_fits i s.tile_rows s.stride.0 (omega arith))
