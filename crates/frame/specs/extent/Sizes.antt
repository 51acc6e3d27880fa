-- The sizes of a frame and of the buffers that go with it (document 01, port order 3, refusals 1 and 4).
use Rattle.std.specs.Prelude.{ℕ, ◌+◌, ◌*◌, ◌/◌, Bool, ◌&&◌, ◌||◌, ltb, leb, eqb}
use Rattle.ground.specs.Pick.{pick}
use Rattle.frame.specs.declared.extent.sizes.Sizes.{Sizes}

-- document 01's limits
abbrev pub most_samples : ℕ
most_samples = 16384

-- the same along an axis in cells, of 8 samples, and in units of 4 samples
abbrev pub most_cells : ℕ
most_cells = most_samples / 8

abbrev pub most_units : ℕ
most_units = most_samples / 4

abbrev pub most_tile_rows : ℕ
most_tile_rows = 64

abbrev pub most_threads : ℕ
most_threads = 255

-- n lies in 1 .. most
unfoldable pub one_to : ℕ → ℕ → Bool
one_to most n = leb 1 n && leb n most

unfoldable pub limits : (width height tile_rows tile_threads frame_threads : ℕ) → Bool
limits width height tile_rows tile_threads frame_threads =
    one_to most_samples width && one_to most_samples height && one_to most_tile_rows tile_rows
    && one_to most_threads tile_threads && one_to most_threads frame_threads

-- samples in units of 8, a part of one counting whole
unfoldable pub eighths : ℕ → ℕ
eighths n = (n + 7) / 8

-- width rounded up to 128, over 8
unfoldable pub stride_of : ℕ → ℕ
stride_of width = (width + 127) / 128 * 128 / 8

-- a superblock's side in units of 4
unfoldable pub sbsz_of : ℕ → ℕ
sbsz_of sb128 = pick (eqb sb128 1) 32 16

-- how many tile rows have a part of their own in the buffers: one tile thread works through all of them in one part
unfoldable pub parts_of : ℕ → ℕ → ℕ
parts_of tile_rows tile_threads = pick (ltb 1 tile_threads) tile_rows 1

unfoldable pub sizes_of : (width height sbsz tile_rows tile_threads frame_threads : ℕ) → Sizes
sizes_of width height sbsz tile_rows tile_threads frame_threads =
    record {
      width = width;
      height = height;
      iw4 = record { 0 = 2 * eighths width };
      ih4 = record { 0 = 2 * eighths height };
      iw8 = record { 0 = eighths width };
      ih8 = record { 0 = eighths height };
      sbsz = record { 0 = sbsz };
      stride = record { 0 = stride_of width };
      tile_rows = tile_rows;
      n_blocks = stride_of width * parts_of tile_rows tile_threads;
      n_tile_threads = tile_threads;
      n_frame_threads = frame_threads;
    }

-- a superblock's side is one of the two that there are
unfoldable pub superblock : ℕ → Bool
superblock sbsz = eqb sbsz 16 || eqb sbsz 32

-- the other sizes of a record are those that follow from its width, height, tile rows and threads
unfoldable pub follows : Sizes → Bool
follows s =
    eqb s.iw8.0 (eighths s.width) && eqb s.ih8.0 (eighths s.height)
    && eqb s.iw4.0 (2 * eighths s.width) && eqb s.ih4.0 (2 * eighths s.height)
    && eqb s.stride.0 (stride_of s.width)
    && eqb s.n_blocks (stride_of s.width * parts_of s.tile_rows s.n_tile_threads)

unfoldable pub well_sizes : Sizes → Bool
well_sizes s =
    limits s.width s.height s.tile_rows s.n_tile_threads s.n_frame_threads && superblock s.sbsz.0 && follows s

-- the listed sizes, in cells and in records
unfoldable pub saved_cells : Sizes → ℕ
saved_cells s = s.stride.0 * s.ih8.0

unfoldable pub projected_cells : Sizes → ℕ
projected_cells s = 16 * s.n_blocks

-- with frames under way at once, each of the two passes has its own
unfoldable pub passes_of : ℕ → ℕ
passes_of frame_threads = pick (ltb 1 frame_threads) 2 1

unfoldable pub records : Sizes → ℕ
records s = 70 * s.n_blocks * passes_of s.n_frame_threads + 1

-- the part that a tile row has in the buffers, by the one-thread rule
unfoldable pub part_of : Sizes → ℕ → ℕ
part_of s i = pick (eqb s.n_tile_threads 1) 0 i
