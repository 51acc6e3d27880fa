-- How long the list of candidates gets, and how heavy: no sum of weights overflows.
-- Assumes nothing.
use mathlib.Core.Path.{◌≡◌, refl}
use mathlib.Core.Bool.{Bool, true, false}
use mathlib.Core.List.{List, [], ◌∷◌, ◌++◌, map}
use Prim.Native.Nat.{ℕ, zero, suc, ◌+◌, ◌*◌, ◌≤◌, ◌<◌}
use native.Mathlib.Omega.{arith}
use lib.Dec.{ltb}
use lib.ListN.{length, get_or, set, length-append, length-set}
use borrow.Author.Tests.{ltb-true}
use Rattle.ground.specs.Pick.{pick}
use Rattle.cells.specs.Block.{MvPair}
use Rattle.stack.specs.declared.candidate.Candidate.{Candidate}
use Rattle.stack.specs.Stack.{nobody, find_in, stands, heavier, add_to}
use Rattle.stack.specs.Code.Found.{heft}

pub add-length : (l : List Candidate) (p : MvPair) (w : ℕ) → length l ≤ 8 → length (add_to l p w) ≤ 8
unfolding add_to
add-length l p w h = by (stands l p) (ltb (length l) 8) refl
  where
    by : (b d : Bool) → ltb (length l) 8 ≡ d
        → length (pick b (set l (find_in l p) (heavier w (get_or l (find_in l p) nobody))) (pick d (l ++ (record { mv = p; weight = w } ∷ [])) l)) ≤ 8
    by true d e = omega (arith, length-set l (find_in l p) (heavier w (get_or l (find_in l p) nobody)))
    by false true e = omega (arith, ltb-true (length l) 8 e, length-append l (record { mv = p; weight = w } ∷ []))
    by false false e = h

-- the weights together
pub heft-at : (l : List Candidate) (i : ℕ) → i < length l → (get_or l i nobody).weight ≤ heft l
unfolding heft
heft-at [] i h = omega arith
heft-at (x ∷ xs) zero h = omega arith
heft-at (x ∷ xs) (suc i) h = omega (arith, heft-at xs i (omega arith))

heft-append : (l : List Candidate) (c : Candidate) → heft (l ++ (c ∷ [])) ≡ heft l + c.weight
unfolding heft
heft-append [] c = omega arith
heft-append (x ∷ xs) c = omega (arith, heft-append xs c)

heft-set : (l : List Candidate) (i w : ℕ) → i < length l → heft (set l i (heavier w (get_or l i nobody))) ≡ heft l + w
unfolding heft
heft-set [] i w h = absurd (omega arith)
heft-set (x ∷ xs) zero w h = omega arith
heft-set (x ∷ xs) (suc i) w h = omega (arith, heft-set xs i w (omega arith))

-- adding makes the stack heavier by the weight at most
pub heft-add : (l : List Candidate) (p : MvPair) (w : ℕ) → heft (add_to l p w) ≤ heft l + w
unfolding add_to
heft-add l p w = by (stands l p) refl (ltb (length l) 8)
  where
    by : (b : Bool) → stands l p ≡ b → (d : Bool)
        → heft (pick b (set l (find_in l p) (heavier w (get_or l (find_in l p) nobody))) (pick d (l ++ (record { mv = p; weight = w } ∷ [])) l)) ≤ heft l + w
    by true e d = omega (arith, heft-set l (find_in l p) w (ltb-true (find_in l p) (length l) e))
    by false e true = omega (arith, heft-append l (record { mv = p; weight = w }))
    by false e false = omega arith

heft-map : (w : ℕ) → w ≤ 640 → (l : List Candidate) → heft (map (heavier w) l) ≤ heft l + 640 * length l
unfolding heft
heft-map w k [] = omega arith
heft-map w k (x ∷ xs) = omega (arith, heft-map w k xs)

pub heft-raised : (l : List Candidate) (w : ℕ) → length l ≤ 8 → w ≤ 640 → heft (map (heavier w) l) ≤ heft l + 5120
heft-raised l w h k = omega (arith, heft-map w k l)
