-- One scan after the other: each goes on from what the one before it found, and the first refusal is the answer.
-- Assumes nothing.
use mathlib.Core.Path.{◌≡◌, refl}
use mathlib.Core.Bool.{Bool, true, false}
use Prim.Native.Nat.{ℕ, ◌+◌, ◌-◌}
use Rattle.spatial.specs.declared.site.block.Site.{Site}
use Rattle.stack.specs.Stack.{State, nothing}
use Rattle.stack.specs.Code.Found.{Found, view}
use Rattle.spatial.specs.declared.neighbours.read.NeighbourRead.{NeighbourRead}
use Rattle.spatial.specs.declared.neighbours.want.Want.{Want}
use Rattle.spatial.specs.declared.scan.Scan.{Scan}
use Rattle.spatial.specs.Code.Scan.{scanned}
use Rattle.spatial.specs.declared.around.near.Around.{Around}
use Rattle.spatial.specs.around.Around.{on, near_of, has_right, point_where, near_all, far_of, round_of, has_left, far_all}
use Rattle.spatial.specs.Code.Around.{went}
use Rattle.spatial.proofs.around.Steps.{by, goes_on, stops, went_on, went-not, ends}

-- the returns of `near`
module _ (read : ℕ → ℕ → NeighbourRead) (b : Site) (decoded : Bool) (q : Want) {s : State} (z : s ≡ nothing)
    (row : Scan) (f : Found) (e : scanned row f ≡ near_of read b false q s) where
  pub near-row-not : (row.answer ≡ 0 → ⊥) → went (by row 0 0) f ≡ near_all read b decoded q
  unfolding near_all
  near-row-not n = rw (← z, ← e, stops row f n) (went-not (by row 0 0) f n)

  module _ (h : row.answer ≡ 0) (column : Scan) (g : Found) (d : scanned column g ≡ near_of read b true q (view f)) where
    pub near-column-not : (column.answer ≡ 0 → ⊥) → went (by column 0 0) g ≡ near_all read b decoded q
    unfolding near_all
    near-column-not n = rw (← z, ← e, goes_on row f h, ← d, stops column g n) (went-not (by column 0 0) g n)

    pub near-ends : column.answer ≡ 0 → (right : Scan) (t : Found)
        → scanned right t ≡ point_where (has_right b decoded) read b (b.x.0 + b.w.0) q (view g)
        → went (by right row.reach column.reach) t ≡ near_all read b decoded q
    unfolding near_all
    near-ends i right t k =
        rw (← z, ← e, goes_on row f h, ← d, goes_on column g i, ← k)
        (ends right t row.reach column.reach (λ u r. on u row.reach column.reach) refl)

-- those of `round`
module _ (read : ℕ → ℕ → NeighbourRead) (b : Site) (n : ℕ) (q : Want) (a : Around) (s : Found) where
  pub round-not : (a.answer ≡ 0 → ⊥) → went a s ≡ round_of read b n q (went a s)
  unfolding round_of
  round-not m = rw (went-not a s m)

  module _ (z : a.answer ≡ 0) (row : Scan) (f : Found) (e : scanned row f ≡ far_of read b false n a.above q (view s)) where
    pub round-row-not : (row.answer ≡ 0 → ⊥) → went (by row 0 0) f ≡ round_of read b n q (went a s)
    unfolding round_of
    round-row-not m = rw (went_on a s z, ← e, stops row f m) (went-not (by row 0 0) f m)

    pub round-ends : row.answer ≡ 0 → (column : Scan) (g : Found) → scanned column g ≡ far_of read b true n a.left q (view f)
        → went (by column row.reach column.reach) g ≡ round_of read b n q (went a s)
    unfolding round_of
    round-ends h column g d =
        rw (went_on a s z, ← e, goes_on row f h, ← d)
        (ends column g row.reach column.reach (λ u r. on u row.reach r) refl)

-- and that of `far`: what was found at the corner, and after each round
pub far-ends : (read : ℕ → ℕ → NeighbourRead) (b : Site) (above left : ℕ) (q : Want) (s : State) (corner : Scan) (two three : Around) (f g h : Found)
    → scanned corner f ≡ point_where (has_left b) read b (b.x.0 - 1) q s
    → went two g ≡ round_of read b 2 q (went (by corner above left) f) → went three h ≡ round_of read b 3 q (went two g)
    → went three h ≡ far_all read b above left q s
unfolding far_all
far-ends read b above left q s corner two three f g h e d k =
    rw (k, d, ← e, ends corner f above left (λ t r. on t above left) refl)
