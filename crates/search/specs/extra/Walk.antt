-- The walk of the extra search (7.10.2.12) along a line of neighbours: each is stepped over by its whole length.
use Rattle.std.specs.Prelude.{ℕ, zero, suc, ◌+◌, Bool, ◌&&◌, List, ltb, length}
use Rattle.ground.specs.Pick.{pick}
use Rattle.cells.specs.declared.cell.Ref.{Ref}
use Rattle.cells.specs.Block.{RefPair}
use Rattle.spatial.specs.declared.neighbours.read.Neighbour.{Neighbour}
use Rattle.spatial.specs.declared.neighbours.read.NeighbourRead.{NeighbourRead}
use Rattle.spatial.specs.declared.neighbours.read.NeighbourRead.TheVariants.{Of, Refused}
use Rattle.spatial.specs.neighbours.Neighbour.{along_of}
use Rattle.stack.specs.Stack.{State}
use Rattle.stack.specs.Answered as answered
use Rattle.search.specs.extra.Lists.{extended_by}
use Rattle.search.specs.extra.Pool.{Both, gathered_by}

abbrev pub on_read : NeighbourRead → (Neighbour → answered.Outcome) → answered.Outcome
on_read (Of k) f = f k
on_read (Refused n) f = answered.refused n

-- From unit x on, while there are fewer than two candidates. The number n is enough for the units that are left.
unfoldable pub single_on : (ℕ → NeighbourRead) → Bool → ℕ → List ℕ → Ref → ℕ → ℕ → State → answered.Outcome
single_on nb down limit biases r zero x s = answered.found s
single_on nb down limit biases r (suc n) x s =
    pick (ltb x limit && ltb (length s.cands) 2)
    (on_read (nb x) (λ k. single_on nb down limit biases r n (x + along_of down k) (extended_by biases r k.block s)))
    (answered.found s)

-- refused, or what was gathered
pub data Gathering : Type 0 where
  refused : ℕ → Gathering
  gathered : Both → Gathering

abbrev pub on_gathering : Gathering → (Both → Gathering) → Gathering
on_gathering (refused n) f = refused n
on_gathering (gathered b) f = f b

abbrev pub on_read₂ : NeighbourRead → (Neighbour → Gathering) → Gathering
on_read₂ (Of k) f = f k
on_read₂ (Refused n) f = refused n

unfoldable pub compound_on : (ℕ → NeighbourRead) → Bool → ℕ → List ℕ → RefPair → ℕ → ℕ → Both → Gathering
compound_on nb down limit biases refs zero x b = gathered b
compound_on nb down limit biases refs (suc n) x b =
    pick (ltb x limit)
    (on_read₂ (nb x) (λ k. compound_on nb down limit biases refs n (x + along_of down k) (gathered_by biases refs k.block b)))
    (gathered b)
