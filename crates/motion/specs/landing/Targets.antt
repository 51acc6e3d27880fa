-- A load by its targets: what stands at one cell of the projection afterwards (proofs/Targeted has it follow from the definitions of `Load`).
use Rattle.std.specs.Prelude.{Bool, ◌&&◌, ◌⊎◌, ℕ, ◌+◌, ◌*◌, ◌%◌, ◌≤◌, ◌<◌, eqb, nat_abs}
use Rattle.ground.specs.Last.{last}
use Rattle.cells.specs.declared.cell.Cell.{Cell}
use Rattle.motion.specs.declared.saving.area.Window.{Window}
use Rattle.motion.specs.declared.landing.land.Motion.{Motion}
use Rattle.motion.specs.landing.Lands.{row_to, col_to, lands, leaves, spot}
use Rattle.motion.specs.landing.Row.{first_source, end_source}

-- the cell c at row y and column x lands at row p of the 16 and column q
unfoldable pub lands_at : Window → Motion → (p q y x : ℕ) → Cell → Bool
lands_at w m p q y x c = lands w m y x c && (eqb (nat_abs (row_to m c y) % 16) p && eqb (nat_abs (col_to m c x)) q)

-- the projection's cell there, after row y of a reference, where it was d: what the last source that lands there leaves, else d
unfoldable pub row_seen : (ℕ → Cell) → Window → Motion → (p q y : ℕ) → Cell → Cell
row_seen cells w m p q y d =
    last (λ x. lands_at w m p q y x (cells x)) (λ x. leaves m (cells x)) (first_source w) (end_source w) d

-- byte i of the projection is in no cell of the window: rows top .. bottom modulo 16, columns left .. right
unfoldable pub Outside : Window → ℕ → Type 0
Outside w i =
    (r q : ℕ) → w.top.0 ≤ r → r < w.bottom.0 → w.left.0 ≤ q → q < w.right.0 → (i < 5 * spot w r q) ⊎ (5 * spot w r q + 5 ≤ i)
