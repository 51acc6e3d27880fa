-- Every answer is sound: few candidates, none of them light, in the order of 7.10.2.11, and no vector out of reach (7.10.2.14).
use Rattle.std.specs.Prelude.{ℕ, ◌≤◌, List, [], ◌∷◌, eqb, length, take, drop}
use Rattle.rows.specs.Setup.{Tile}
use Rattle.spatial.specs.declared.neighbours.read.NeighbourRead.{NeighbourRead}
use Rattle.stack.specs.declared.candidate.Candidate.{Candidate}
use Rattle.stack.specs.declared.clamp.Reach.{Reach}
use Rattle.stack.specs.Stable.{Falling}
use Rattle.stack.proofs.Clips.{AllInside}
use Rattle.spatial.specs.around.Around.{Went, refused, on, near_all}
use Rattle.search.specs.declared.front.ask.Ask.{Ask}
use Rattle.search.specs.front.Ask.{want_of, site_of}
use Rattle.search.specs.Find.{Finding}

-- no candidate weighs less than n
abbrev pub AllGe : ℕ → List Candidate → Type 0
AllGe n [] = Unit
AllGe n (x ∷ xs) = (n ≤ x.weight) × AllGe n xs

-- how many candidates the near neighbours gave
abbrev pub count_in : Went → ℕ
count_in (refused n) = 0
count_in (on s above left) = length s.cands

unfoldable pub near_count : (ℕ → ℕ → NeighbourRead) → Tile → Ask → ℕ
near_count read t a = count_in (near_all read (site_of t a) (eqb a.decoded 1) (want_of a))

-- the first n candidates and the others: either part falls in weight
pub record InParts (n : ℕ) (l : List Candidate) : Type 0 where
  pub some : n ≤ length l
  pub first : Falling (take n l)
  pub others : Falling (drop n l)

-- `near` is how many candidates the near neighbours gave
pub record Sound (near : ℕ) (r : Reach) (x : Finding) : Type 0 where
  pub few : length x.cands ≤ 8
  pub heavy : AllGe 2 x.cands
  pub parts : InParts near x.cands
  pub inside : AllInside r x.cands
