-- A row of a load doesn't tell absent cells apart: neither what it lays nor what it reads goes by an absent cell's vector.
-- Assumes nothing.
use mathlib.Core.Path.{◌≡◌, sym, ap, ◌∙◌}
use mathlib.Core.Logic.{◌⊎◌}
use mathlib.Core.Bool.{Bool, true}
use Prim.Native.Nat.{ℕ, ◌≤◌, ◌<◌}
use Rattle.ground.specs.Pick.{pick}
use Rattle.ground.proofs.Spans as spans
use Rattle.cells.specs.declared.cell.Cell.{Cell}
use Rattle.cells.specs.Cell.{saved_absent, well_saved}
use Rattle.motion.specs.declared.saving.area.Window.{Window}
use Rattle.motion.specs.declared.landing.land.Motion.{Motion}
use Rattle.motion.specs.landing.Lands.{landing}
use Rattle.motion.specs.landing.Row.{first_source, end_source, lane, row_script, cell_read, sources_read, Alike}
use Rattle.motion.proofs.landing.Landings.{still-absent}

well-absent : (c : Cell) → saved_absent c ≡ true → well_saved c ≡ true
unfolding well_saved
well-absent c h = rw h

-- one cell
module _ {c d : Cell} where
  lands-alike : (w : Window) (m : Motion) (y x : ℕ) → Alike c d → landing w m y x c ≡ landing w m y x d
  lands-alike w m y x (◌⊎◌.inl e) = ap (landing w m y x) e
  lands-alike w m y x (◌⊎◌.inr p) = still-absent w m y x c p.0 ∙ sym (still-absent w m y x d p.1)

  well-alike : Alike c d → well_saved c ≡ well_saved d
  well-alike (◌⊎◌.inl e) = ap well_saved e
  well-alike (◌⊎◌.inr p) = well-absent c p.0 ∙ sym (well-absent d p.1)

-- A ROW: what it lays, and what it reads
pub row-alike : (s t : ℕ → Cell) (w : Window) (m : Motion) (y : ℕ) → ((x : ℕ) → first_source w ≤ x → x < end_source w → Alike (s x) (t x))
    → (row_script s w m y ≡ row_script t w m y) × (sources_read s w ≡ sources_read t w)
unfolding row_script lane sources_read cell_read
row-alike s t w m y h = (
  spans.alike (lane s w m y) (lane t w m y) (first_source w) (end_source w) (λ x a b. lands-alike w m y x (h x a b)),
  spans.ask-alike (cell_read s) (cell_read t) (first_source w) (end_source w) (λ x a b. ap (λ (b : Bool). pick b 0 7) (well-alike (h x a b))),
)
