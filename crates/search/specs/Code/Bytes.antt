-- This definition follows the code: the cells that a search reads, out of lent bytes.
use Rattle.std.specs.Prelude.{ℕ, List}
use Rattle.frame.specs.extent.Sizes.{projected_cells}
use Rattle.layout.specs.FrameBytes.{frame_at}
use Rattle.temporal.specs.declared.aim.CellRead.{CellRead}
use Rattle.temporal.specs.Temporal.{cell_read}

abbrev pub cells_in : (frame proj : List ℕ) → ℕ → CellRead
cells_in frame proj = cell_read proj (projected_cells (frame_at frame).sizes)
