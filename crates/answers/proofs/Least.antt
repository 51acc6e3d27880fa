-- What the operations on candidates keep: no weight falls below a bound, and no candidate is lost.
-- Assumes nothing.
use mathlib.Core.Bool.{Bool, true, false}
use mathlib.Core.List.{List, [], ◌∷◌, ◌++◌, map}
use Prim.Native.Nat.{ℕ, zero, suc, ◌≤◌}
use native.Mathlib.Omega.{arith}
use lib.Dec.{ltb}
use lib.ListN.{length, get_or, set, take, drop, length-append, length-set}
use Rattle.ground.specs.Pick.{pick}
use Rattle.cells.specs.Block.{MvPair}
use Rattle.stack.specs.declared.candidate.Candidate.{Candidate}
use Rattle.stack.specs.declared.clamp.Reach.{Reach}
use Rattle.stack.specs.Stack.{State, nobody, find_in, stands, heavier, add_to}
use Rattle.stack.specs.Sort.{insert, sort_into, sorted, ordered}
use Rattle.stack.specs.Clamp.{clamped_one}
use Rattle.answers.specs.Sound.{AllGe}

module _ (n : ℕ) where
  pub ge-append : (k l : List Candidate) → AllGe n k → AllGe n l → AllGe n (k ++ l)
  ge-append [] l h g = g
  ge-append (x ∷ xs) l h g = (h.0, ge-append xs l h.1 g)

  ge-set : (l : List Candidate) (i w : ℕ) → AllGe n l → AllGe n (set l i (heavier w (get_or l i nobody)))
  ge-set [] i w h = tt
  ge-set (x ∷ xs) zero w h = (omega (arith, h.0), h.1)
  ge-set (x ∷ xs) (suc i) w h = (h.0, ge-set xs i w h.1)

  pub ge-add : (l : List Candidate) (p : MvPair) (w : ℕ) → AllGe n l → n ≤ w → AllGe n (add_to l p w)
  unfolding add_to
  ge-add l p w h k = by (stands l p) (ltb (length l) 8)
    where
      by : (b d : Bool) → AllGe n (pick b (set l (find_in l p) (heavier w (get_or l (find_in l p) nobody))) (pick d (l ++ (record { mv = p; weight = w } ∷ [])) l))
      by true d = ge-set l (find_in l p) w h
      by false true = ge-append l (record { mv = p; weight = w } ∷ []) h (k, tt)
      by false false = h

  pub ge-heavier : (l : List Candidate) (w : ℕ) → AllGe n l → AllGe n (map (heavier w) l)
  ge-heavier [] w h = tt
  ge-heavier (x ∷ xs) w h = (omega (arith, h.0), ge-heavier xs w h.1)

  pub ge-clamped : (r : Reach) (l : List Candidate) → AllGe n l → AllGe n (map (clamped_one r) l)
  ge-clamped r [] h = tt
  ge-clamped r (x ∷ xs) h = (h.0, ge-clamped r xs h.1)

  ge-insert : (c : Candidate) (l : List Candidate) → n ≤ c.weight → AllGe n l → AllGe n (insert c l)
  unfolding insert
  ge-insert c [] k h = (k, tt)
  ge-insert c (x ∷ xs) k h = by (ltb x.weight c.weight) (ge-insert c xs k h.1)
    where
      by : (b : Bool) → AllGe n (insert c xs) → AllGe n (pick b (c ∷ x ∷ xs) (x ∷ insert c xs))
      by true g = (k, h)
      by false g = (h.0, g)

  ge-into : (acc l : List Candidate) → AllGe n acc → AllGe n l → AllGe n (sort_into acc l)
  unfolding sort_into
  ge-into acc [] g h = g
  ge-into acc (x ∷ xs) g h = ge-into (insert x acc) xs (ge-insert x acc h.0 g) h.1

  ge-sorted : (l : List Candidate) → AllGe n l → AllGe n (sorted l)
  unfolding sorted
  ge-sorted l h = ge-into [] l tt h

  ge-take : (m : ℕ) (l : List Candidate) → AllGe n l → AllGe n (take m l)
  ge-take zero l h = tt
  ge-take (suc m) [] h = tt
  ge-take (suc m) (x ∷ xs) h = (h.0, ge-take m xs h.1)

  ge-drop : (m : ℕ) (l : List Candidate) → AllGe n l → AllGe n (drop m l)
  ge-drop zero l h = h
  ge-drop (suc m) [] h = tt
  ge-drop (suc m) (x ∷ xs) h = ge-drop m xs h.1

  pub ge-ordered : (m : ℕ) (s : State) → AllGe n s.cands → AllGe n (ordered m s).cands
  unfolding ordered
  ge-ordered m s h =
      ge-append (sorted (take m s.cands)) (sorted (drop m s.cands))
      (ge-sorted (take m s.cands) (ge-take m s.cands h))
      (ge-sorted (drop m s.cands) (ge-drop m s.cands h))

-- no candidate is lost
pub add-longer : (l : List Candidate) (p : MvPair) (w : ℕ) → length l ≤ length (add_to l p w)
unfolding add_to
add-longer l p w = by (stands l p) (ltb (length l) 8)
  where
    by : (b d : Bool) → length l ≤ length (pick b (set l (find_in l p) (heavier w (get_or l (find_in l p) nobody))) (pick d (l ++ (record { mv = p; weight = w } ∷ [])) l))
    by true d = omega (arith, length-set l (find_in l p) (heavier w (get_or l (find_in l p) nobody)))
    by false true = omega (arith, length-append l (record { mv = p; weight = w } ∷ []))
    by false false = omega arith
