-- What is read along a line, and one turn of a walk along it, with any fuel that is enough.
-- Assumes nothing.
use mathlib.Core.Path.{◌≡◌}
use mathlib.Core.Bool.{Bool, false}
use mathlib.Core.List.{List}
use Prim.Native.Nat.{ℕ, zero, suc, ◌+◌, ◌≤◌, ◌<◌}
use native.Mathlib.Nat.{lt_irrefl}
use native.Mathlib.Omega.{arith}
use lib.Dec.{eqb}
use lib.ListN.{length}
use borrow.Author.Tests.{lt-ltb, le-ltb, eq-eqb, ne_eqb}
use Rattle.ground.proofs.Picks.{pick_true, pick-false}
use Rattle.cells.specs.declared.cell.Ref.{Ref}
use Rattle.cells.specs.Block.{RefPair}
use Rattle.spatial.specs.declared.neighbours.read.Neighbour.{Neighbour}
use Rattle.layout.specs.TileBytes.{tile_at}
use Rattle.spatial.specs.declared.neighbours.read.Line.{Line}
use Rattle.spatial.specs.declared.neighbours.read.NeighbourRead.{NeighbourRead}
use Rattle.spatial.specs.declared.neighbours.read.NeighbourRead.TheVariants.{Of, Refused}
use Rattle.spatial.specs.declared.neighbours.records.Records.{Records}
use Rattle.spatial.specs.neighbours.Neighbour.{along_of}
use Rattle.spatial.specs.Code.Neighbour.{line_from}
use Rattle.spatial.proofs.neighbours.Known.{Known, is_known, is_some, some-side, told_line}
use Rattle.stack.specs.Stack.{State}
use Rattle.stack.specs.Answered.{Outcome, refused, found}
use Rattle.search.specs.extra.Lists.{extended_by}
use Rattle.search.specs.declared.extra.walk.Pooled.{Pooled}
use Rattle.search.specs.extra.Pool.{Both, gathered_by}
use Rattle.search.specs.Code.Pool.{pools_of}
use Rattle.search.specs.extra.Walk as walk
use Rattle.search.specs.Code.Walk.{pooled}

-- an answer a of neighbour x, matched: its number isn't 0, its block is well formed, and it is 1 to 32 units long
module _ (r : Records) (l : Line) (x : ℕ) {a : NeighbourRead} (e : a ≡ line_from r l x) where
  pub some : {m : ℕ} → a ≡ Refused m → eqb m 0 ≡ false
  some {m} o = let h = is_some (told_line (tile_at r.tile.now).rows r.recs.now r.total l x) e o in ne_eqb m 0 (λ z. omega arith)

  pub known : {k : Neighbour} → a ≡ Of k → Known k
  known o = is_known (told_line (tile_at r.tile.now).rows r.recs.now r.total l x) e o

  pub strides : (down : Bool) {k : Neighbour} {n : ℕ} → a ≡ Of k → n ≡ along_of down k → (1 ≤ n) × (n ≤ 32)
  strides down {k} o i = let h = some-side down k (known o) in (omega (arith, h.0, i), omega (arith, h.1, i))

module _ (nb : ℕ → NeighbourRead) (down : Bool) (limit : ℕ) (biases : List ℕ) where
  -- what is left of a single search's walk
  abbrev pub Goes : Ref → Outcome → ℕ → State → Type 0
  Goes r o x s = (n : ℕ) × (limit ≤ x + n) × (o ≡ walk.single_on nb down limit biases r n x s)

  module _ (r : Ref) (o : Outcome) (x : ℕ) (s : State) where
    pub ends : limit ≤ x → Goes r o x s → o ≡ found s
    unfolding walk.single_on
    ends h (zero, f, e) = e
    ends h (suc n, f, e) = rw (le-ltb x limit h) at e

    pub enough : x < limit → 2 ≤ length s.cands → Goes r o x s → o ≡ found s
    unfolding walk.single_on
    enough h g (zero, f, e) = e
    enough h g (suc n, f, e) = rw (lt-ltb x limit h, le-ltb (length s.cands) 2 g) at e

    pub refuses : (m : ℕ) {a : NeighbourRead} → x < limit → length s.cands < 2 → a ≡ nb x → a ≡ Refused m → Goes r o x s → o ≡ refused m
    unfolding walk.single_on
    refuses m h g e₁ e₂ (zero, f, e) = absurd (lt_irrefl x (omega arith))
    refuses m h g e₁ e₂ (suc n, f, e) = rw (lt-ltb x limit h, lt-ltb (length s.cands) 2 g, ← e₁, e₂) at e

    pub goes : (k : Neighbour) {a : NeighbourRead} {len : ℕ} → x < limit → length s.cands < 2 → a ≡ nb x → a ≡ Of k → len ≡ along_of down k → 1 ≤ len
        → Goes r o x s → Goes r o (x + len) (extended_by biases r k.block s)
    unfolding walk.single_on
    goes k h g e₁ e₂ l i (zero, f, e) = absurd (lt_irrefl x (omega arith))
    goes k h g e₁ e₂ l i (suc n, f, e) = (n, omega arith, rw l (rw (lt-ltb x limit h, lt-ltb (length s.cands) 2 g, ← e₁, e₂) at e))

  -- and of a compound one's
  abbrev pub Goes₂ : RefPair → walk.Gathering → ℕ → Both → Type 0
  Goes₂ refs o x b = (n : ℕ) × (limit ≤ x + n) × (o ≡ walk.compound_on nb down limit biases refs n x b)

  module _ (refs : RefPair) (o : walk.Gathering) (x : ℕ) (b : Both) where
    pub ends₂ : limit ≤ x → Goes₂ refs o x b → o ≡ walk.gathered b
    unfolding walk.compound_on
    ends₂ h (zero, f, e) = e
    ends₂ h (suc n, f, e) = rw (le-ltb x limit h) at e

    pub refuses₂ : (m : ℕ) {a : NeighbourRead} → x < limit → a ≡ nb x → a ≡ Refused m → Goes₂ refs o x b → o ≡ walk.refused m
    unfolding walk.compound_on
    refuses₂ m h e₁ e₂ (zero, f, e) = absurd (lt_irrefl x (omega arith))
    refuses₂ m h e₁ e₂ (suc n, f, e) = rw (lt-ltb x limit h, ← e₁, e₂) at e

    pub goes₂ : (k : Neighbour) {a : NeighbourRead} {len : ℕ} → x < limit → a ≡ nb x → a ≡ Of k → len ≡ along_of down k → 1 ≤ len
        → Goes₂ refs o x b → Goes₂ refs o (x + len) (gathered_by biases refs k.block b)
    unfolding walk.compound_on
    goes₂ k h e₁ e₂ l i (zero, f, e) = absurd (lt_irrefl x (omega arith))
    goes₂ k h e₁ e₂ l i (suc n, f, e) = (n, omega arith, rw l (rw (lt-ltb x limit h, ← e₁, e₂) at e))

-- a compound search's answer says what was gathered: 0 with the pools, or a refusal
module _ (a : Pooled) where
  pub is-gathered : a.answer ≡ 0 → pooled a ≡ walk.gathered (pools_of a.pools)
  unfolding pooled
  is-gathered e = pick_true _ (eq-eqb _ _ e)

  pub is-stopped : (a.answer ≡ 0 → ⊥) → pooled a ≡ walk.refused a.answer
  unfolding pooled
  is-stopped n = pick-false _ (ne_eqb _ _ n)
