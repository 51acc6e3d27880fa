-- Parts of the record buffer: each tile row has one in each pass, they lie apart and inside the listed records, and a table's rows lie apart inside their part.
-- Assumes nothing.
use mathlib.Core.Path.{◌≡◌, refl}
use mathlib.Core.Bool.{Bool, true, false, ◌&&◌, not}
use Prim.Native.Nat.{ℕ, ◌+◌, ◌*◌, ◌^◌, ◌≤◌, ◌<◌}
use native.Mathlib.Nat.{mul-le-mul_right}
use native.Mathlib.Omega.{arith}
use lib.Dec.{ltb, eqb}
use borrow.Author.Tests.{ltb-true}
use Rattle.ground.specs.Pick.{pick}
use Rattle.frame.specs.declared.extent.sizes.Sizes.{Sizes}
use Rattle.frame.specs.extent.Sizes.{part_of, passes_of, records, well_sizes}
use Rattle.frame.proofs.extent.Sizing.{Fits, fits, part-fits, blocks-most, records-most}
use Rattle.frame.specs.declared.record.Frame.{Frame}
use Rattle.frame.specs.Record.{well_frame}
use Rattle.rows.specs.declared.setup.SbRow.{SbRow}
use Rattle.rows.specs.Setup.{pass_start, part_start, ordered, in_frame, is_pass, rows_answer}
use Rattle.rows.proofs.Tabled.{side-most}

pub in_frame_lem : (s : Sizes) (tile : ℕ) → in_frame s tile ≡ true → part_of s tile < s.tile_rows
unfolding in_frame
in_frame_lem s tile e = ltb-true (part_of s tile) s.tile_rows e

-- a part of 35 rows ends inside the listed records
pub part-listed : (s : Sizes) (part pass : ℕ) → part * s.stride.0 + s.stride.0 ≤ s.n_blocks → part_start s part pass + 70 * s.stride.0 < records s
unfolding part_start pass_start records passes_of
part-listed s part pass h = by (ltb 1 s.n_frame_threads) (eqb pass 2)
  where
    by : (a b : Bool) → 70 * (part * s.stride.0) + pick (a && b) (70 * s.n_blocks) 0 + 70 * s.stride.0 < 70 * s.n_blocks * pick a 2 1 + 1
    by true true = omega arith
    by true false = omega arith
    by false b = omega arith

-- numbers of records fit the machine's
pub records-fit : (s : Sizes) → Fits s → records s < 2 ^ 32
unfolding records
records-fit s f = omega (arith, records-most s f)

-- a tile row's part starts, and its 35 rows end, below 2 ^ 32
pub start_fits : (s : Sizes) (tile pass : ℕ) → well_sizes s ≡ true → in_frame s tile ≡ true → part_start s (part_of s tile) pass + 70 * s.stride.0 < 2 ^ 32
start_fits s tile pass e h =
    let f = fits s e in
    omega (arith, records-fit s f, part-listed s (part_of s tile) pass (part-fits s tile f (in_frame_lem s tile h)))

pub rows_fit : (s : Sizes) (tile pass : ℕ) → well_sizes s ≡ true → in_frame s tile ≡ true
    → part_start s (part_of s tile) pass + s.sbsz.0 * (2 * s.stride.0) + 2 * (2 * s.stride.0) < 2 ^ 64
rows_fit s tile pass e h =
    let n = mul-le-mul_right (2 * s.stride.0) (side-most s.sbsz.0 (fits s e).superblock) in
    omega (arith, start_fits s tile pass e h)

pub blocks-fit : (s : Sizes) → Fits s → s.n_blocks < 2 ^ 32
blocks-fit s f = omega (arith, f.blocks, blocks-most s.width s.tile_rows s.n_tile_threads f.limits.width.fits f.limits.rows)

pub part_small : (s : Sizes) (tile : ℕ) → well_sizes s ≡ true → in_frame s tile ≡ true → part_of s tile * s.stride.0 < 2 ^ 32
part_small s tile e h = let f = fits s e in omega (arith, part-fits s tile f (in_frame_lem s tile h), blocks-fit s f)

-- what an accepted row setup tells
pub rows-accepted : (f : Frame) (r : SbRow) → rows_answer f r ≡ 0 → (well_frame f ≡ true) × (in_frame f.sizes r.tile ≡ true)
unfolding rows_answer
rows-accepted f r e =
    by (is_pass r.pass) (well_frame f) (ordered r.col && ordered r.row) (in_frame f.sizes r.tile) e
  where
    by : (p w o i : Bool) → ◌≡◌ {A = ℕ} (pick (not p) 12 (pick (not w) 1 (pick (o && i) 0 3))) 0 → (w ≡ true) × (i ≡ true)
    by true true true true h = (refl, refl)
    by true true true false h = absurd (omega arith)
    by true true false i h = absurd (omega arith)
    by true false o i h = absurd (omega arith)
    by false w o i h = absurd (omega arith)
