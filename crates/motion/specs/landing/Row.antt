-- One row of a reference (document 01, port order 6): its sources, what it lays column by column, its reads, and the clearing of a row of the window.
use Rattle.std.specs.Prelude.{ℕ, ◌+◌, ◌-◌, ◌*◌, min, ◌≡◌, ◌⊎◌, true, List, [], ◌∷◌}
use Rattle.ground.specs.Pick.{pick}
use Rattle.ground.specs.Script.{Patch}
use Rattle.ground.specs.Span.{span, first_of}
use Rattle.vector.specs.Vector.{invalid, mv_bytes}
use Rattle.cells.specs.declared.cell.Cell.{Cell}
use Rattle.cells.specs.Cell.{cell_at, saved_absent, well_saved}
use Rattle.motion.specs.declared.saving.area.Window.{Window}
use Rattle.motion.specs.declared.landing.land.Motion.{Motion}
use Rattle.motion.specs.landing.Lands.{spot, landing}

-- A row of source cells is a function from column to cell, so that no definition below speaks of bytes. Sources run from 8 columns
-- before the window to 8 after, inside the frame.
abbrev pub first_source : Window → ℕ
first_source w = w.left.0 - 8

unfoldable pub end_source : Window → ℕ
end_source w = min (w.right.0 + 8) w.iw8.0

unfoldable pub lane : (ℕ → Cell) → Window → Motion → ℕ → ℕ → List Patch
lane cells w m y x = landing w m y x (cells x)

-- row y of a reference, column by column
unfoldable pub row_script : (ℕ → Cell) → Window → Motion → ℕ → List Patch
row_script cells w m y = span (lane cells w m y) (first_source w) (end_source w)

-- its reads
unfoldable pub cell_read : (ℕ → Cell) → ℕ → ℕ
cell_read cells x = pick (well_saved (cells x)) 0 7

unfoldable pub sources_read : (ℕ → Cell) → Window → ℕ
sources_read cells w = first_of (cell_read cells) (first_source w) (end_source w)

-- two source cells that no row tells apart: one cell, or both without a reference (proofs/landing/Alike)
abbrev pub Alike : Cell → Cell → Type 0
Alike c d = (c ≡ d) ⊎ ((saved_absent c ≡ true) × (saved_absent d ≡ true))

-- the clearing of row y: four bytes of each cell
abbrev pub wiped : ℕ → Patch
wiped k = record { at = 5 * k; bytes = mv_bytes invalid }

unfoldable pub wipe : Window → ℕ → ℕ → List Patch
wipe w y q = wiped (spot w y q) ∷ []

unfoldable pub clear_row : Window → ℕ → List Patch
clear_row w y = span (wipe w y) w.left.0 w.right.0

unfoldable pub source_at : List ℕ → ℕ → ℕ → Cell
source_at field first x = cell_at field (first + x)
