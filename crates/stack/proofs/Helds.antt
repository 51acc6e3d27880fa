-- What the lent numbers hold after one of them is stored; and pairs of vectors as numbers, which are equal where the pairs are.
-- Assumes nothing.
use mathlib.Core.Path.{◌≡◌, refl, sym, ap, ap₂, ◌∙◌}
use mathlib.Core.Logic.{◌↔◌}
use mathlib.Core.Bool.{Bool, true, false, and-eq-true_iff}
use mathlib.Core.List.{List, [], ◌∷◌}
use Prim.Native.Nat.{ℕ, zero, suc, ◌+◌, ◌*◌, ◌/◌, ◌%◌, ◌^◌, ◌≤◌, ◌<◌}
use native.Mathlib.Nat.{zero-add}
use native.Mathlib.Omega.{arith}
use lib.Dec.{eqb}
use lib.ListN.{length, get_or, set, length-set}
use lib.Seq.{ext_get_or, get_or-set_same, get_or-set_other}
use borrow.Author.Tests.{eqb-true, eqb-false, eq-eqb}
use Rattle.ground.specs.Tab.{tab}
use Rattle.ground.proofs.Tabs.{tab-at, tab-length, tab-cong}
use Rattle.ground.proofs.Picks.{agree}
use Rattle.vector.specs.declared.mv.Mv.{Mv}
use Rattle.vector.specs.Vector.{mv_bits, mv_of, eq_mv}
use Rattle.vector.proofs.Vectors.{Fits, eq_mv-is}
use Rattle.vector.proofs.Words.{of-bits, bits_most, bits_of}
use Rattle.cells.specs.Block.{MvPair}
use Rattle.stack.specs.declared.candidate.Candidate.{Candidate}
use Rattle.stack.specs.declared.numbers.Flag.{Flag}
use Rattle.stack.specs.declared.numbers.Flag.TheVariants.{NewMv, Above, Left}
use Rattle.stack.specs.Code.Found.{live, view, with_stack}
use Rattle.stack.specs.Stack.{nothing, nobody, eq_pair}
use Rattle.stack.specs.Code.Numbers.{pair_bits, pair_in, cand_at, is_on, found_at, place_of, flag_in, flagged, Held}

pub stack-long : (l : List ℕ) → length (found_at l).stack ≡ 8
unfolding found_at
stack-long l = tab-length (cand_at l) 0 8

pub cand-is : (l : List ℕ) (i : ℕ) → i < 8 → get_or (found_at l).stack i nobody ≡ cand_at l i
unfolding found_at
cand-is l i h = tab-at (cand_at l) nobody 0 8 i h ∙ ap (cand_at l) (zero-add i)

-- two rules that differ at i only
tab-set : {A : Type 0} (d : A) (f g : ℕ → A) (n i : ℕ) → i < n → ((k : ℕ) → k < n → (k ≡ i → ⊥) → f k ≡ g k)
    → tab f 0 n ≡ set (tab g 0 n) i (f i)
tab-set d f g n i h same =
    let m = tab-length f 0 n in
    let o = tab-length g 0 n in
    ext_get_or d (tab f 0 n) (set (tab g 0 n) i (f i)) (m ∙ sym (length-set (tab g 0 n) i (f i) ∙ o))
    (λ k b. by k (omega arith) (eqb k i) refl)
  where
    by : (k : ℕ) → k < n → (b : Bool) → eqb k i ≡ b → get_or (tab f 0 n) k d ≡ get_or (set (tab g 0 n) i (f i)) k d
    by k b true e =
        let o = tab-length g 0 n in
        rw (eqb-true k i e, get_or-set_same (tab g 0 n) i (f i) d (omega arith), tab-at f d 0 n i h, zero-add i)
    by k b false e =
        rw (get_or-set_other (tab g 0 n) i k (f i) d (eqb-false k i e), tab-at f d 0 n k b, tab-at g d 0 n k b, zero-add k) (same k b (eqb-false k i e))

module _ (l : List ℕ) (j v : ℕ) where
  -- a number that isn't the one that is stored
  rest : (k : ℕ) → (k ≡ j → ⊥) → get_or (set l j v) k 0 ≡ get_or l k 0
  rest k n = get_or-set_other l j k v 0 n

  cand-rest : (k : ℕ) → (k ≡ j → ⊥) → (8 + k ≡ j → ⊥) → cand_at (set l j v) k ≡ cand_at l k
  unfolding cand_at
  cand-rest k n m = rw (rest k n, rest (8 + k) m)

  -- what stands behind the candidates
  tail : (s : List Candidate) → j < 16 → (found_at (set l j v)).stack ≡ s → found_at (set l j v) ≡ with_stack (found_at l) s
  unfolding found_at
  tail s h e = rw (e, rest 16 (λ q. omega arith), rest 17 (λ q. omega arith), rest 18 (λ q. omega arith), rest 19 (λ q. omega arith))

  stays : 16 ≤ j → (found_at (set l j v)).stack ≡ (found_at l).stack
  unfolding found_at
  stays h = tab-cong (cand_at (set l j v)) (cand_at l) 0 8 (λ k a b. cand-rest k (λ q. omega arith) (λ q. omega arith))

pub pair-laid : (l : List ℕ) (i k : ℕ) → length l ≡ 20 → i < 8
    → found_at (set l i k) ≡ with_stack (found_at l) (set (found_at l).stack i (record { mv = pair_in k; weight = get_or l (8 + i) 0 }))
unfolding found_at cand_at
pair-laid l i k n h =
    let s = tab-set nobody (cand_at (set l i k)) (cand_at l) 8 i h (λ m b q. cand-rest l i k m q (λ e. omega arith)) in
    tail l i k _ (omega arith) (s ∙ ap (set (found_at l).stack i) (rw (get_or-set_same l i k 0 (omega arith), rest l i k (8 + i) (λ q. omega arith))))

pub weight-laid : (l : List ℕ) (i w : ℕ) → length l ≡ 20 → i < 8
    → found_at (set l (8 + i) w) ≡ with_stack (found_at l) (set (found_at l).stack i (record { mv = pair_in (get_or l i 0); weight = w }))
unfolding found_at cand_at
weight-laid l i w n h =
    let s = tab-set nobody (cand_at (set l (8 + i) w)) (cand_at l) 8 i h (λ m b q. cand-rest l (8 + i) w m (λ e. omega arith) (λ e. q (omega arith))) in
    tail l (8 + i) w _ (omega arith) (s ∙ ap (set (found_at l).stack i) (rw (get_or-set_same l (8 + i) w 0 (omega arith), rest l (8 + i) w i (λ q. omega arith))))

pub count-laid : (l : List ℕ) (n : ℕ) → length l ≡ 20
    → found_at (set l 16 n) ≡ record { stack = (found_at l).stack; count = n; newmv = (found_at l).newmv; above = (found_at l).above; left = (found_at l).left }
unfolding found_at
count-laid l n h =
    rw (
      stays l 16 n (omega arith),
      get_or-set_same l 16 n 0 (omega arith),
      rest l 16 n 17 (λ q. omega arith),
      rest l 16 n 18 (λ q. omega arith),
      rest l 16 n 19 (λ q. omega arith),
    )

pub flag-laid : (l : List ℕ) (f : Flag) → length l ≡ 20 → found_at (set l (place_of f) 1) ≡ flagged f (found_at l)
unfolding found_at
flag-laid l NewMv h =
    let r = rest l 17 1 in
    rw (stays l 17 1 (omega arith), get_or-set_same l 17 1 0 (omega arith), r 16 (λ q. omega arith), r 18 (λ q. omega arith), r 19 (λ q. omega arith))
flag-laid l Above h =
    let r = rest l 18 1 in
    rw (stays l 18 1 (omega arith), get_or-set_same l 18 1 0 (omega arith), r 16 (λ q. omega arith), r 17 (λ q. omega arith), r 19 (λ q. omega arith))
flag-laid l Left h =
    let r = rest l 19 1 in
    rw (stays l 19 1 (omega arith), get_or-set_same l 19 1 0 (omega arith), r 16 (λ q. omega arith), r 17 (λ q. omega arith), r 18 (λ q. omega arith))

pub flag_is : (l : List ℕ) (f : Flag) → is_on (get_or l (place_of f) 0) ≡ flag_in f (found_at l)
unfolding found_at
flag_is l NewMv = refl
flag_is l Above = refl
flag_is l Left = refl

-- a 0 that is stored, and one that stands there whatever 0 is stored next
zero-laid : (l : List ℕ) (j : ℕ) → get_or (set l j 0) j 0 ≡ 0
zero-laid [] j = refl
zero-laid (x ∷ xs) zero = refl
zero-laid (x ∷ xs) (suc j) = zero-laid xs j

zero-stays : (l : List ℕ) (j k : ℕ) → get_or l k 0 ≡ 0 → get_or (set l j 0) k 0 ≡ 0
zero-stays [] j k e = e
zero-stays (x ∷ xs) zero zero e = refl
zero-stays (x ∷ xs) zero (suc k) e = e
zero-stays (x ∷ xs) (suc j) zero e = e
zero-stays (x ∷ xs) (suc j) (suc k) e = zero-stays xs j k e

-- the count and the flags are 0
pub cleared : (l : List ℕ) → length l ≡ 20
    → Held (set (set (set (set l 16 0) 17 0) 18 0) 19 0) × ((found_at (set (set (set (set l 16 0) 17 0) 18 0) 19 0)).count ≡ 0)
    × (view (found_at (set (set (set (set l 16 0) 17 0) 18 0) 19 0)) ≡ nothing)
unfolding found_at live view nothing
cleared l h =
    let a = set l 16 0 in
    let b = set a 17 0 in
    let d = set b 18 0 in
    let n = length-set d 19 0 ∙ length-set b 18 0 ∙ length-set a 17 0 ∙ length-set l 16 0 ∙ h in
    let e = zero-stays d 19 16 (zero-stays b 18 16 (zero-stays a 17 16 (zero-laid l 16))) in
    let f = zero-stays d 19 17 (zero-stays b 18 17 (zero-laid a 17)) in
    (record { size = n; room = rw e (omega arith) }, e, rw (e, f, zero-stays d 19 18 (zero-laid b 18), zero-laid d 19))

-- both vectors are of 16-bit components, as those of every pair in code are
pub record FitsPair (p : MvPair) : Type 0 where
  pub first : Fits p.first
  pub second : Fits p.second

pair : {a b c d : Mv} → a ≡ c → b ≡ d → ◌≡◌ {A = MvPair} (record { first = a; second = b }) (record { first = c; second = d })
pair e f = ap₂ (λ a b. record { first = a; second = b }) e f

pub pair-back : (p : MvPair) → FitsPair p → pair_in (pair_bits p) ≡ p
unfolding pair_in pair_bits
pair-back p f =
    let m = bits_most p.first f.first in
    let a : (mv_bits p.first + 4294967296 * mv_bits p.second) % 4294967296 ≡ mv_bits p.first = omega (arith, m) in
    let b : (mv_bits p.first + 4294967296 * mv_bits p.second) / 4294967296 ≡ mv_bits p.second = omega (arith, m) in
    pair (ap mv_of a ∙ of-bits p.first f.first) (ap mv_of b ∙ of-bits p.second f.second)

-- a number that was made from a pair
pub holds : {k : ℕ} (p : MvPair) → FitsPair p → k ≡ pair_bits p → pair_in k ≡ p
holds p f e = ap pair_in e ∙ pair-back p f

-- and a number out of its pair
bits_back : (n : ℕ) → n < 2 ^ 64 → pair_bits (pair_in n) ≡ n
unfolding pair_in pair_bits
bits_back n h = rw (bits_of (n % 4294967296) (omega arith), bits_of (n / 4294967296) (omega arith)) (omega arith)

eq_pair-is : (p q : MvPair) → p ≡ q ↔ eq_pair p q ≡ true
unfolding eq_pair
eq_pair-is p q = (
  λ e. ap (λ (r : MvPair). eq_pair r q) e ∙ (and-eq-true_iff _ _).1 ((eq_mv-is q.first q.first).0 refl, (eq_mv-is q.second q.second).0 refl),
  λ t.
      let h = (and-eq-true_iff (eq_mv p.first q.first) (eq_mv p.second q.second)).0 t in
      pair ((eq_mv-is p.first q.first).1 h.0) ((eq_mv-is p.second q.second).1 h.1),
)

-- the test of two numbers is the test of their pairs
pub pair_eq : (n k : ℕ) → n < 2 ^ 64 → k < 2 ^ 64 → eqb n k ≡ eq_pair (pair_in n) (pair_in k)
pair_eq n k h g =
    agree _ _
    (λ e. (eq_pair-is (pair_in n) (pair_in k)).0 (ap pair_in (eqb-true n k e)))
    (λ e. eq-eqb n k (sym (bits_back n h) ∙ ap pair_bits ((eq_pair-is (pair_in n) (pair_in k)).1 e) ∙ bits_back k g))
