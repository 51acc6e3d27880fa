-- The sorting process (7.10.2.11) leaves two falling parts; what falls as a whole does so in any two, and clamping changes no weight.
-- Assumes nothing.
use mathlib.Core.Path.{◌≡◌, refl, ap, ◌∙◌}
use mathlib.Core.List.{List, [], ◌∷◌, ◌++◌, map}
use Prim.Native.Nat.{ℕ, zero, suc, ◌≤◌, ◌<◌}
use native.Mathlib.Omega.{arith}
use lib.ListN.{length, take, drop, length-append, length-map, take-append-drop}
use lib.Seq.{length-take-le, take_at, drop_at}
use Rattle.stack.specs.declared.candidate.Candidate.{Candidate}
use Rattle.stack.specs.declared.clamp.Reach.{Reach}
use Rattle.stack.specs.Stack.{State}
use Rattle.stack.specs.Sort.{sorted, ordered}
use Rattle.stack.specs.Stable.{AllLe, Falling, is-falling}
use Rattle.stack.specs.Clamp.{clamped_one}
use Rattle.stack.proofs.Moves.{length-sorted}
use Rattle.answers.specs.Sound.{AllGe, InParts}
use Rattle.answers.proofs.Least.{ge-ordered}
use Rattle.answers.proofs.Kept.{Kept}

-- a falling list and a candidate that is no heavier than any of it
le-behind : (n : ℕ) (l : List Candidate) (c : Candidate) → AllLe n l → c.weight ≤ n → AllLe n (l ++ (c ∷ []))
le-behind n [] c a h = (h, tt)
le-behind n (x ∷ xs) c a h = (a.0, le-behind n xs c a.1 h)

pub falling-behind : (l : List Candidate) (c : Candidate) → Falling l → AllGe c.weight l → Falling (l ++ (c ∷ []))
falling-behind [] c f g = (tt, tt)
falling-behind (x ∷ xs) c f g = (le-behind x.weight xs c f.0 g.0, falling-behind xs c f.1 g.1)

pub short-falls : (l : List Candidate) → length l < 2 → Falling l
short-falls [] h = tt
short-falls (x ∷ []) h = (tt, tt)
short-falls (x ∷ y ∷ l) h = absurd (omega arith)

-- parts of it
le-take : (n m : ℕ) (l : List Candidate) → AllLe n l → AllLe n (take m l)
le-take n zero l a = tt
le-take n (suc m) [] a = tt
le-take n (suc m) (x ∷ xs) a = (a.0, le-take n m xs a.1)

falling-take : (m : ℕ) (l : List Candidate) → Falling l → Falling (take m l)
falling-take zero l f = tt
falling-take (suc m) [] f = tt
falling-take (suc m) (x ∷ xs) f = (le-take x.weight m xs f.0, falling-take m xs f.1)

falling-drop : (m : ℕ) (l : List Candidate) → Falling l → Falling (drop m l)
falling-drop zero l f = f
falling-drop (suc m) [] f = tt
falling-drop (suc m) (x ∷ xs) f = falling-drop m xs f.1

pub parts-falling : (n : ℕ) (l : List Candidate) → n ≤ length l → Falling l → InParts n l
parts-falling n l h f = record { some = h; first = falling-take n l f; others = falling-drop n l f }

-- clamped
module _ (r : Reach) where
  le-clamped : (n : ℕ) (l : List Candidate) → AllLe n l → AllLe n (map (clamped_one r) l)
  le-clamped n [] a = tt
  le-clamped n (x ∷ xs) a = (a.0, le-clamped n xs a.1)

  falling-clamped : (l : List Candidate) → Falling l → Falling (map (clamped_one r) l)
  falling-clamped [] f = tt
  falling-clamped (x ∷ xs) f = (le-clamped x.weight xs f.0, falling-clamped xs f.1)

  take-map : (n : ℕ) (l : List Candidate) → take n (map (clamped_one r) l) ≡ map (clamped_one r) (take n l)
  take-map zero l = refl
  take-map (suc n) [] = refl
  take-map (suc n) (x ∷ xs) = ap (λ (k : List Candidate). clamped_one r x ∷ k) (take-map n xs)

  drop-map : (n : ℕ) (l : List Candidate) → drop n (map (clamped_one r) l) ≡ map (clamped_one r) (drop n l)
  drop-map zero l = refl
  drop-map (suc n) [] = refl
  drop-map (suc n) (x ∷ xs) = drop-map n xs

  pub parts-clamped : (n : ℕ) (l : List Candidate) → InParts n l → InParts n (map (clamped_one r) l)
  parts-clamped n l p =
      record {
        some = omega (arith, p.some, length-map l (clamped_one r));
        first = rw (take-map n l) (falling-clamped (take n l) p.first);
        others = rw (drop-map n l) (falling-clamped (drop n l) p.others);
      }

-- sorted: the same number of candidates, the first n of them and the others each in order
module _ (n : ℕ) (s : State) (k : Kept n s.cands) where
  front : length (sorted (take n s.cands)) ≡ n
  front = length-sorted (take n s.cands) ∙ length-take-le n s.cands k.some

  abbrev first : List Candidate
  first = sorted (take n s.cands)

  abbrev others : List Candidate
  others = sorted (drop n s.cands)

  pub parts-ordered : InParts n (ordered n s).cands
  unfolding ordered
  parts-ordered =
      record {
        some = omega (arith, length-append first others, front);
        first = rw (take_at first others n front) (is-falling (take n s.cands));
        others = rw (drop_at first others n front) (is-falling (drop n s.cands));
      }

  pub kept-ordered : Kept n (ordered n s).cands
  unfolding ordered
  kept-ordered =
      let e = length-append first others in
      let d = length-append (take n s.cands) (drop n s.cands) in
      let w = ap length (take-append-drop n s.cands) in
      let t = length-sorted (drop n s.cands) in
      record {
        some = omega (arith, e, front);
        few = omega (arith, e, d, w, t, front, length-take-le n s.cands k.some, k.few);
        heavy = ge-ordered 2 n s k.heavy;
      }
