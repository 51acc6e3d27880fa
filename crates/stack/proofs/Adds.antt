-- What the code finds and stores, as what the definitions say of the candidates in use.
-- Assumes nothing.
use mathlib.Core.Path.{◌≡◌, refl, sym, ap, ◌∙◌}
use mathlib.Core.Bool.{Bool, true, false, cond, not}
use mathlib.Core.List.{List, [], ◌∷◌, ◌++◌}
use Prim.Native.Nat.{ℕ, suc, ◌+◌, ◌^◌, ◌≤◌, ◌<◌}
use native.Mathlib.Omega.{arith}
use native.Mathlib.Numerals.{add-one}
use lib.Dec.{eqb}
use Rattle.std.proofs.Common.{Some, None}
use Rattle.std.specs.Option.{is_some}
use Rattle.std.specs.List.{position, position_or_len}
use lib.ListN.{length, get_or, set, take, length-set}
use lib.Seq.{get_or-take, length-take-le, take-set-lt, take-suc-set}
use borrow.Author.Tests.{lt-ltb, le-ltb, ltb-true, ltb-false}
use Rattle.ground.specs.Pick.{pick}
use Rattle.cells.specs.Block.{MvPair}
use Rattle.stack.specs.declared.candidate.Candidate.{Candidate}
use Rattle.stack.specs.Code.Found.{Found, with_stack, live, view, weightier, appended, heft}
use Rattle.stack.specs.Stack.{place_in, stands, with_cands, eq_pair, nobody, find_in, heavier, add_to, joined, pushed, extended}
use Rattle.stack.specs.Code.Numbers.{pair_in, cand_at, found_at, view_at, count_at, Held}
use Rattle.stack.proofs.Counts.{heft-at, heft-add}
use Rattle.stack.proofs.Helds.{stack-long, cand-is, weight-laid, count-laid, pair_eq}
use Rattle.stack.proofs.Maps.{Turned, as-was, live_of}

-- the first number that is k, where numbers and candidates agree on which are
first-is : (xs : List ℕ) (cs : List Candidate) (k : ℕ) (p : MvPair) → length xs ≡ length cs
    → ((i : ℕ) → i < length xs → eqb (get_or xs i 0) k ≡ eq_pair (get_or cs i nobody).mv p) → position_or_len (λ x. eqb x k) xs ≡ find_in cs p
unfolding find_in
first-is [] [] k p n h = refl
first-is [] (c ∷ cs) k p n h = absurd (omega (arith, n))
first-is (x ∷ xs) [] k p n h = absurd (omega (arith, n))
first-is (x ∷ xs) (c ∷ cs) k p n h = rw (h 0 (omega arith)) (by (eq_pair c.mv p) (first-is xs cs k p (omega (arith, n)) (λ i g. h (suc i) (omega arith))))
  where
    by : (b : Bool) → position_or_len (λ x. eqb x k) xs ≡ find_in cs p → cond (not b) (1 + position_or_len (λ x. eqb x k) xs) 0 ≡ pick b 0 (suc (find_in cs p))
    by true ih = refl
    by false ih = omega (arith, ih)

find-le : (l : List Candidate) (p : MvPair) → find_in l p ≤ length l
unfolding find_in
find-le [] p = omega arith
find-le (x ∷ xs) p = by (eq_pair x.mv p) (find_in xs p) (length xs) (find-le xs p)
  where
    by : (b : Bool) (m n : ℕ) → m ≤ n → pick b 0 (suc m) ≤ suc n
    by true m n h = omega arith
    by false m n h = omega arith

live-length : (s : Found) → length s.stack ≡ 8 → s.count ≤ 8 → length (live s) ≡ s.count
unfolding live
live-length s full few = length-take-le s.count s.stack (omega arith)

-- what was found stands in the numbers l
module _ (l : List ℕ) (h : Held l) where
  pub in_use : length (live (found_at l)) ≡ count_at l
  in_use = live-length (found_at l) (stack-long l) h.room

  pub how-many : length (view_at l).cands ≡ count_at l
  unfolding view
  how-many = in_use

  live-is : (i : ℕ) → i < (found_at l).count → get_or (live (found_at l)) i nobody ≡ cand_at l i
  unfolding live
  live-is i g = get_or-take (found_at l).count (found_at l).stack i nobody g ∙ cand-is l i (omega (arith, h.room))

  pub weight-in : (i : ℕ) → i < (found_at l).count → get_or l (8 + i) 0 ≤ heft (live (found_at l))
  unfolding cand_at
  weight-in i g =
      let e : (get_or (live (found_at l)) i nobody).weight ≡ get_or l (8 + i) 0 = ap (λ (c : Candidate). c.weight) (live-is i g) in
      omega (arith, heft-at (live (found_at l)) i (omega (arith, in_use)), e)

  -- one that a loop hasn't reached has its weight still
  pub weight-kept : {f : Candidate → Candidate} (m : List ℕ) (i : ℕ) → Turned f (found_at l) i (found_at m) → i < (found_at l).count
      → get_or m (8 + i) 0 ≤ heft (live (found_at l))
  unfolding cand_at
  weight-kept m i inv g =
      let k : i < 8 = omega (arith, h.room) in
      let e : get_or m (8 + i) 0 ≡ get_or l (8 + i) 0 = ap (λ (c : Candidate). c.weight) (sym (cand-is m i k) ∙ as-was inv ∙ cand-is l i k) in
      omega (arith, weight-in i g, e)

  -- the candidate at i gains weight
  pub gains : (i w : ℕ) → i < 8
      → Held (set l (8 + i) (get_or l (8 + i) 0 + w)) × (found_at (set l (8 + i) (get_or l (8 + i) 0 + w)) ≡ weightier w i (found_at l))
  unfolding weightier cand_at
  gains i w g =
      let e = weight-laid l i (get_or l (8 + i) 0 + w) h.size g in
      (record { size = length-set l (8 + i) _ ∙ h.size; room = rw e h.room }, rw (e, cand-is l i g))

  -- a candidate that was laid behind the others is counted
  pub counts : (c : Candidate) (m : List ℕ) (n : ℕ) → n ≡ (found_at l).count → n < 8 → Held m → found_at m ≡ with_stack (found_at l) (set (found_at l).stack n c)
      → Held (set m 16 (n + 1)) × (found_at (set m 16 (n + 1)) ≡ appended (found_at l) c)
  unfolding appended
  counts c m n e g o q =
      let d : found_at (set m 16 (n + 1)) ≡ appended (found_at l) c = rw (count-laid m (n + 1) o.size, q, add-one n, e) in
      (record { size = length-set m 16 (n + 1) ∙ o.size; room = rw d (omega arith) }, d)

-- the search by numbers
module _ (l : List ℕ) (h : Held l) (k : ℕ) (few : (i : ℕ) → get_or l i 0 < 2 ^ 64) (fits : k < 2 ^ 64) where
  pub test-is : (i : ℕ) → i < (found_at l).count → eqb (get_or l i 0) k ≡ eq_pair (get_or (live (found_at l)) i nobody).mv (pair_in k)
  unfolding cand_at
  test-is i g = pair_eq (get_or l i 0) k (few i) fits ∙ sym (ap (λ (c : Candidate). eq_pair c.mv (pair_in k)) (live-is l h i g))

  -- the first number that is k stands where the first such pair does
  pub position-is : position (λ x. eqb x k) (take (count_at l) l) ≡ place_in (live (found_at l)) (pair_in k)
  unfolding place_in
  position-is =
      let m = length-take-le (count_at l) l (omega (arith, h.size, h.room)) in
      let e = first-is (take (count_at l) l) (live (found_at l)) k (pair_in k) (m ∙ sym (in_use l h))
      (λ i g. ap (λ (n : ℕ). eqb n k) (get_or-take (count_at l) l i 0 (omega (arith, m))) ∙ test-is i (omega (arith, m))) in
      rw (e, m, in_use l h) refl

-- a place that is given, and none
module _ (l : List Candidate) (p : MvPair) where
  pub place-given : {i : ℕ} → place_in l p ≡ Some i → (i ≡ find_in l p) × (i < length l)
  unfolding place_in
  place-given e = by (stands l p) refl e
    where
      by : {i : ℕ} → (b : Bool) → stands l p ≡ b → pick b (Some (find_in l p)) None ≡ Some i → (i ≡ find_in l p) × (i < length l)
      by {i = i} true s e = let t = ltb-true _ _ s in let d : i ≡ find_in l p = cc in (d, omega arith)
      by false s e = cc

  pub no-place : place_in l p ≡ None → length l ≤ find_in l p
  unfolding place_in
  no-place e = by (stands l p) refl e
    where
      by : (b : Bool) → stands l p ≡ b → pick b (Some (find_in l p)) None ≡ None → length l ≤ find_in l p
      by true s e = cc
      by false s e = ltb-false _ _ s

  pub has-place : is_some (place_in l p) ≡ stands l p
  unfolding place_in
  has-place = by (stands l p)
    where
      by : (b : Bool) → is_some (pick b (Some (find_in l p)) None) ≡ b
      by true = refl
      by false = refl

-- what is added to the list, by where the pair stands
module _ (l : List Candidate) (p : MvPair) (w : ℕ) {i : ℕ} (at : i ≡ find_in l p) where
  add-hit : i < length l → set l i (heavier w (get_or l i nobody)) ≡ add_to l p w
  unfolding add_to
  add-hit h = let t : find_in l p < length l = omega arith in rw (lt-ltb _ _ t, ← at)

  add-behind : length l ≤ i → length l < 8 → l ++ (record { mv = p; weight = w } ∷ []) ≡ add_to l p w
  unfolding add_to
  add-behind h k = let t : length l ≤ find_in l p = omega arith in rw (le-ltb _ _ t, lt-ltb _ _ k)

  add_none : length l ≤ i → 8 ≤ length l → l ≡ add_to l p w
  unfolding add_to
  add_none h k = let t : length l ≤ find_in l p = omega arith in rw (le-ltb _ _ t, le-ltb _ _ k)

-- the two stores as what they do to the candidates in use
grown : (s : Found) (w i : ℕ) → i < s.count → view (weightier w i s) ≡ with_cands (view s) (set (live s) i (heavier w (get_or (live s) i nobody)))
unfolding live view weightier
grown s w i h =
    ap (with_cands (view s))
    (take-set-lt s.count s.stack i _ h
    ∙ ap (λ (c : Candidate). set (take s.count s.stack) i (heavier w c)) (sym (get_or-take s.count s.stack i nobody h)))

laid : (s : Found) (c : Candidate) → s.count < length s.stack → view (appended s c) ≡ with_cands (view s) (live s ++ (c ∷ []))
unfolding live view appended
laid s c h = ap (with_cands (view s)) (take-suc-set s.stack s.count c h)

module _ (l : List ℕ) (h : Held l) (p : MvPair) {i : ℕ} (at : i ≡ find_in (live (found_at l)) p) where
  pub hit : (w : ℕ) → i < (found_at l).count → view (weightier w i (found_at l)) ≡ joined (view (found_at l)) p w
  unfolding view joined
  hit w g =
      grown (found_at l) w i g ∙ ap (with_cands (view (found_at l))) (add-hit (live (found_at l)) p w at (omega (arith, in_use l h)))

  pub behind : (w : ℕ) → (found_at l).count ≤ i → (found_at l).count < 8
      → view (appended (found_at l) (record { mv = p; weight = w })) ≡ joined (view (found_at l)) p w
  unfolding view joined
  behind w g k =
      let n = in_use l h in
      laid (found_at l) _ (omega (arith, stack-long l))
      ∙ ap (with_cands (view (found_at l))) (add-behind (live (found_at l)) p w at (omega arith) (omega arith))

  pub no_room : (w : ℕ) → (found_at l).count ≤ i → 8 ≤ (found_at l).count → view (found_at l) ≡ joined (view (found_at l)) p w
  unfolding view joined
  no_room w g k =
      let n = in_use l h in
      ap (with_cands (view (found_at l))) (add_none (live (found_at l)) p w at (omega arith) (omega arith))

-- only where it is new
module _ (l : List ℕ) (p : MvPair) where
  pub new : is_some (place_in (live (found_at l)) p) ≡ false → (found_at l).count < 8
      → view (appended (found_at l) (record { mv = p; weight = 2 })) ≡ extended (view (found_at l)) p
  unfolding view extended
  new e k = rw (sym (has-place (live (found_at l)) p) ∙ e) (laid (found_at l) _ (omega (arith, stack-long l)))

  pub old : is_some (place_in (live (found_at l)) p) ≡ true → view (found_at l) ≡ extended (view (found_at l)) p
  unfolding view extended
  old e = rw (sym (has-place (live (found_at l)) p) ∙ e)

pub pushes : (l : List ℕ) (p : MvPair) → (found_at l).count < 8 → view (appended (found_at l) (record { mv = p; weight = 2 })) ≡ pushed (view (found_at l)) p
unfolding view pushed
pushes l p k = laid (found_at l) _ (omega (arith, stack-long l))

-- what is joined is heavier by the weight at most
pub heft-joined : (s t : Found) (p : MvPair) (w : ℕ) → view t ≡ joined (view s) p w → heft (live t) ≤ heft (live s) + w
unfolding view joined
heft-joined s t p w e = rw (live_of s t e) (heft-add (live s) p w)
