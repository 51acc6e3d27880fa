-- The extra search over a block's two sides: what a walk may be asked for, and what its answers make of the whole.
-- Assumes nothing.
use mathlib.Core.Path.{◌≡◌, refl, ◌∙◌}
use mathlib.Core.Bool.{Bool, true, false}
use mathlib.Core.List.{List}
use Prim.Native.Nat.{ℕ, ◌≤◌, ◌<◌}
use lib.ListN.{length}
use borrow.Author.Tests.{ne_eqb, le-leb, lt-leb}
use Rattle.cells.specs.declared.cell.Ref.{Ref}
use Rattle.cells.specs.Block.{MvPair}
use Rattle.cells.specs.Block.{RefPair}
use Rattle.spatial.specs.declared.site.block.Site.{Site}
use Rattle.spatial.specs.site.Site.{depth_of}
use Rattle.spatial.specs.Code.Site.{Placed}
use Rattle.spatial.specs.declared.neighbours.read.Line.{Line}
use Rattle.spatial.specs.declared.neighbours.read.NeighbourRead.{NeighbourRead}
use Rattle.spatial.specs.neighbours.Neighbour.{line_at}
use Rattle.spatial.specs.around.Lines.{near_line}
use Rattle.spatial.proofs.around.Places.{near_down, near-room}
use Rattle.stack.specs.Stack.{State}
use Rattle.stack.specs.Code.Found.{Found, view, outcome}
use Rattle.stack.specs.Answered.{Outcome}
use Rattle.stack.proofs.Answers.{is_found, is-refused}
use Rattle.search.specs.declared.extra.walk.Pooled.{Pooled}
use Rattle.cells.specs.Cell.{is_ref}
use Rattle.search.specs.extra.Pool.{Both, nothing, pair_at, completed}
use Rattle.search.specs.Code.Pool.{pools_of}
use Rattle.search.specs.extra.Walk.{Gathering, single_on, compound_on}
use Rattle.search.specs.Code.Walk.{pooled, Walked}
use Rattle.search.proofs.extra.Walks.{is-gathered, is-stopped}
use Rattle.search.specs.Extend.{extra_limit, single_where, single_extra, compound_where, compound_extra, extra_of}

-- a side's line is one that a walk may go along
pub near-walked : {limit : ℕ} {l : Line} (down : Bool) (b : Site) → Placed b → l ≡ near_line down b → limit ≤ 16 → Walked l limit
near-walked down b p e s =
    let r = near-room b p down in
    rw e (record { entry = r.entry; col = r.col; short = s })

-- a side that isn't at the tile's edge
module _ (read : ℕ → ℕ → NeighbourRead) (b : Site) (down : Bool) (biases : List ℕ) {l : Line} {limit : ℕ} (i : l ≡ near_line down b) (j : limit ≡ extra_limit b) (n : depth_of down b ≡ 0 → ⊥) where
  pub single-is : {o : Outcome} (r : Ref) (s : State) → o ≡ single_on (line_at read l) l.down limit biases r limit 0 s → o ≡ single_where read b down biases r s
  unfolding single_where
  single-is r s e = e ∙ rw (i, j, near_down down b, ne_eqb (depth_of down b) 0 n)

  pub compound-is : {o : Gathering} (refs : RefPair) (p : Both) → o ≡ compound_on (line_at read l) l.down limit biases refs limit 0 p → o ≡ compound_where read b down biases refs p
  unfolding compound_where
  compound-is refs p e = e ∙ rw (i, j, near_down down b, ne_eqb (depth_of down b) 0 n)

-- the returns of `single_extra`
module _ (read : ℕ → ℕ → NeighbourRead) (b : Site) (biases : List ℕ) (r : Ref) (s : State) (above : ℕ) (u : Found) (e : outcome above u ≡ single_where read b false biases r s) where
  pub single-stops : (above ≡ 0 → ⊥) → outcome above u ≡ single_extra read b biases r s
  unfolding single_extra
  single-stops n = rw (← e, is-refused above u n)

  pub single-ends : {o : Outcome} → above ≡ 0 → o ≡ single_where read b true biases r (view u) → o ≡ single_extra read b biases r s
  unfolding single_extra
  single-ends z d = rw (← e, is_found above u z) d

-- those of `compound_extra`
module _ (read : ℕ → ℕ → NeighbourRead) (b : Site) (biases : List ℕ) (refs : RefPair) (g : MvPair) (s : Found) {p : Both} (k : p ≡ nothing) (above : Pooled) (e : pooled above ≡ compound_where read b false biases refs p) where
  pub compound-stops : (above.answer ≡ 0 → ⊥) → outcome above.answer s ≡ compound_extra read b biases refs g (view s)
  unfolding compound_extra
  compound-stops n = rw (← k, ← e, is-stopped above n) (is-refused above.answer s n)

  module _ (z : above.answer ≡ 0) (both : Pooled) (d : pooled both ≡ compound_where read b true biases refs (pools_of above.pools)) where
    pub compound-stops₂ : (both.answer ≡ 0 → ⊥) → outcome both.answer s ≡ compound_extra read b biases refs g (view s)
    unfolding compound_extra
    compound-stops₂ n = rw (← k, ← e, is-gathered above z, ← d, is-stopped both n) (is-refused both.answer s n)

    pub compound-ends : {one two : MvPair} (t : Found) → both.answer ≡ 0 → one ≡ pair_at (pools_of both.pools) g 0 → two ≡ pair_at (pools_of both.pools) g 1
        → view t ≡ completed one two (view s) → outcome 0 t ≡ compound_extra read b biases refs g (view s)
    unfolding compound_extra
    compound-ends t y q v w =
        rw (← k, ← e, is-gathered above z, ← d, is-gathered both y, ← q, ← v, ← w) (is_found 0 t refl)

-- and those of `extend`
module _ (read : ℕ → ℕ → NeighbourRead) (b : Site) (biases : List ℕ) (refs : RefPair) (g : MvPair) (s : Found) (n : length (view s).cands ≡ s.count) where
  pub extra-enough : 2 ≤ s.count → outcome 0 s ≡ extra_of read b biases refs g (view s)
  unfolding extra_of
  extra-enough h = rw (n, le-leb 2 s.count h) (is_found 0 s refl)

  module _ (h : s.count < 2) where
    pub extra-none : is_ref refs.first ≡ false → outcome 0 s ≡ extra_of read b biases refs g (view s)
    unfolding extra_of
    extra-none e = rw (n, lt-leb 2 s.count h, e) (is_found 0 s refl)

    module _ {o : Outcome} (e : is_ref refs.first ≡ true) where
      pub extra-compound : is_ref refs.second ≡ true → o ≡ compound_extra read b biases refs g (view s) → o ≡ extra_of read b biases refs g (view s)
      unfolding extra_of
      extra-compound d i = rw (n, lt-leb 2 s.count h, e, d) i

      pub extra-single : is_ref refs.second ≡ false → o ≡ single_extra read b biases refs.first (view s) → o ≡ extra_of read b biases refs g (view s)
      unfolding extra_of
      extra-single d i = rw (n, lt-leb 2 s.count h, e, d) i
