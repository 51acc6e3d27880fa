-- The standard's stamp and the source's count select the same references; how the code's places hold them; and that they are at most three, of five.
-- Assumes nothing.
use mathlib.Core.Path.{◌≡◌, refl, sym, ap, ap₂, ◌∙◌}
use mathlib.Core.Bool.{Bool, true, false, ◌&&◌, ◌||◌, true≢false}
use mathlib.Core.List.{List, [], ◌∷◌, ◌++◌}
use Prim.Native.Nat.{ℕ, zero, suc, ◌+◌, ◌-◌, ◌≤◌, ◌<◌}
use native.Mathlib.Omega.{arith}
use lib.Dec.{ltb, leb}
use lib.IntN.{ℤ, pos, negsuc, sub_ℕ, ◌+ℤ◌}
use lib.ListN.{length, get_or}
use lib.Signed.{le_z}
use borrow.Author.Tests.{ltb-true, lt-ltb, le-ltb, lt-leb, le-leb}
use Rattle.ground.specs.Pick.{pick}
use Rattle.ground.proofs.Picks.{pick_true, pick-false, both}
use Rattle.ground.proofs.Diffs.{Which, more, less, which, as-less, as-more, as-neg, add, diff}
use Rattle.frame.specs.declared.hints.description.Description.{Description}
use Rattle.frame.specs.declared.hints.select.Selection.{Selection}
use Rattle.frame.specs.hints.Selection.{Turn, turns, first, total_of, stamped, counted, searched, selected, selected_by_count, last_wanted, as_selection, grown_of, lent, later}
use Rattle.frame.specs.hints.Selection.{selectable}

-- one more behind a list
abbrev grew : Bool → List ℕ → ℕ → List ℕ
grew t xs r = pick t (xs ++ (r ∷ [])) xs

behind : (xs : List ℕ) (r : ℕ) → length (xs ++ (r ∷ [])) ≡ suc (length xs)
behind [] r = refl
behind (x ∷ xs) r = ap suc (behind xs r)

-- The stamp is what is left of the total, less one: 0 or above as long as the count is below the total.
open-yet : (total n : ℕ) → le_z (pos 0) (sub_ℕ total (suc n)) ≡ ltb n total
open-yet total n = by (which total (suc n))
  where
    by : Which total (suc n) → le_z (pos 0) (sub_ℕ total (suc n)) ≡ ltb n total
    by (more h) = ap (λ (z : ℤ). le_z (pos 0) z) (as-more total (suc n) h) ∙ le-leb 0 (total - suc n) (omega arith) ∙ sym (lt-ltb n total (omega arith))
    by (less h) = ap (λ (z : ℤ). le_z (pos 0) z) (as-less total (suc n) h) ∙ sym (le-ltb n total (omega arith))

fallen : (total n m : ℕ) {s : ℤ} → s ≡ sub_ℕ total (suc n) → m ≡ suc n → s +ℤ negsuc 0 ≡ sub_ℕ total (suc m)
fallen total n m e k =
    ap₂ (λ (a b : ℤ). a +ℤ b) e (as-neg 1) ∙ add total (suc n) 0 1 ∙ diff (total + 0) (suc n + 1) total (suc m) (omega arith)

pub same-list : (total : ℕ) (ts : List Turn) (s : ℤ) (taken : List ℕ) → s ≡ sub_ℕ total (suc (length taken)) → stamped s taken ts ≡ counted total taken ts
unfolding stamped counted
same-list total [] s taken e = refl
same-list total (t ∷ ts) s taken e =
    by ((t.always || le_z (pos 0) s) && t.wanted) ((t.always || ltb (length taken) total) && t.wanted)
    (ap (λ (b : Bool). (t.always || b) && t.wanted) (ap (λ (z : ℤ). le_z (pos 0) z) e ∙ open-yet total (length taken)))
    (same-list total ts (s +ℤ negsuc 0) (taken ++ (t.reference ∷ [])) (fallen total (length taken) _ e (behind taken t.reference)))
    (same-list total ts s taken e)
  where
    by : (a b : Bool) → a ≡ b
        → stamped (s +ℤ negsuc 0) (taken ++ (t.reference ∷ [])) ts ≡ counted total (taken ++ (t.reference ∷ [])) ts
        → stamped s taken ts ≡ counted total taken ts
        → pick a (stamped (s +ℤ negsuc 0) (taken ++ (t.reference ∷ [])) ts) (stamped s taken ts)
        ≡ counted total (grew b taken t.reference) ts
    by true true g p q = p
    by false false g p q = q
    by true false g p q = absurd (true≢false g)
    by false true g p q = absurd (true≢false (sym g))

-- on every input
pub same-selection : (d : Description) (present : List ℕ) → selected d present ≡ selected_by_count d present
unfolding selected selected_by_count
same-selection d present =
    ap (λ (xs : List ℕ). pick (searched d) xs []) (same-list _ (turns d present) (pos 1) _ (start (last_wanted d present)))
  where
    start : (l : Bool) → pos 1 ≡ sub_ℕ (total_of l) (suc (length (first l)))
    start true = refl
    start false = refl

-- The code's places. One more reference, if the test takes it.
grow : (t : Bool) (xs : List ℕ) (r : ℕ) → (t ≡ true → length xs < 3) → grown_of t r (as_selection xs) ≡ as_selection (grew t xs r)
unfolding grown_of as_selection
grow false xs r h = refl
grow true [] r h = refl
grow true (a ∷ []) r h = refl
grow true (a ∷ b ∷ []) r h = refl
grow true (a ∷ b ∷ k ∷ xs) r h = let l = h refl in absurd (omega arith)

pub grown : {s g : Selection} {t u : Bool} (xs : List ℕ) (r : ℕ) → s ≡ as_selection xs → t ≡ u → (u ≡ true → length xs < 3) → g ≡ grown_of t r s
    → g ≡ as_selection (pick u (xs ++ (r ∷ [])) xs)
grown {u = u} xs r e f h k = k ∙ ap₂ (λ (t : Bool) (s : Selection). grown_of t r s) f e ∙ grow u xs r h

pub nothing : record { n = 0; refs = 0 ∷ 0 ∷ 0 ∷ [] } ≡ as_selection []
unfolding as_selection
nothing = refl

pub held : (xs : List ℕ) {s : Selection} → s ≡ as_selection xs → s.n ≡ length xs
unfolding as_selection
held xs e = ap (λ (s : Selection). s.n) e

-- at most one more each time, and with a test for room at most the total
longer : (t : Bool) (xs : List ℕ) (r n : ℕ) → length xs ≤ n → length (grew t xs r) ≤ suc n
longer true xs r n h = let e = behind xs r in omega arith
longer false xs r n h = omega arith

roomy : (w : Bool) (xs : List ℕ) (total : ℕ) → total ≤ 3 → (ltb (length xs) total && w) ≡ true → length xs < 3
roomy w xs total h e = let k = ltb-true (length xs) total (both (ltb (length xs) total) w e).0 in omega arith

filled : (t : Bool) (xs : List ℕ) (r : ℕ) → length xs ≤ 3 → (t ≡ true → length xs < 3) → length (grew t xs r) ≤ 3
filled true xs r h f = let e = behind xs r in let l = f refl in omega arith
filled false xs r h f = h

-- The five turns in order. Each list is the one before it with one more reference, if its test takes it.
module _ (d : Description) (present : List ℕ) where
  abbrev pub total : ℕ
  total = total_of (last_wanted d present)

  abbrev pub after_last : List ℕ
  after_last = pick (last_wanted d present) (0 ∷ []) []

  abbrev pub after-bwdref : List ℕ
  after-bwdref = grew (lent present 4 && later d 4) after_last 4

  abbrev pub after-altref2 : List ℕ
  after-altref2 = grew (lent present 5 && later d 5) after-bwdref 5

  abbrev pub after-altref : List ℕ
  after-altref = grew (ltb (length after-altref2) total && (lent present 6 && later d 6)) after-altref2 6

  abbrev pub after-last2 : List ℕ
  after-last2 = grew (ltb (length after-altref) total && lent present 1) after-altref 1

  total-most : total ≤ 3
  total-most = by (last_wanted d present)
    where
      by : (b : Bool) → total_of b ≤ 3
      by true = omega arith
      by false = omega arith

  pub short-last : length after_last ≤ 1
  short-last = longer (last_wanted d present) [] 0 0 (omega arith)

  pub short-bwdref : length after-bwdref ≤ 2
  short-bwdref = longer (lent present 4 && later d 4) after_last 4 1 short-last

  pub short-altref2 : length after-altref2 ≤ 3
  short-altref2 = longer (lent present 5 && later d 5) after-bwdref 5 2 short-bwdref

  pub room-altref : (ltb (length after-altref2) total && (lent present 6 && later d 6)) ≡ true → length after-altref2 < 3
  room-altref = roomy (lent present 6 && later d 6) after-altref2 total total-most

  pub room-last2 : (ltb (length after-altref) total && lent present 1) ≡ true → length after-altref < 3
  room-last2 = roomy (lent present 1) after-altref total total-most

  short-last2 : length after-last2 ≤ 3
  short-last2 = filled _ after-altref 1 (filled _ after-altref2 6 short-altref2 room-altref) room-last2

  pub all-turns : counted total (first (last_wanted d present)) (turns d present) ≡ after-last2
  unfolding counted turns
  all-turns = refl

  pub selected-on : searched d ≡ true → selected d present ≡ after-last2
  unfolding selected_by_count
  selected-on e = same-selection d present ∙ pick_true [] e ∙ all-turns

  pub selected-off : searched d ≡ false → selected d present ≡ []
  unfolding selected
  selected-off e = pick-false _ e

  -- at most three
  pub selected-most : length (selected d present) ≤ 3
  selected-most = by (searched d) refl
    where
      by : (b : Bool) → searched d ≡ b → length (selected d present) ≤ 3
      by true e = let k = ap (λ (xs : List ℕ). length xs) (selected-on e) in let l = short-last2 in omega arith
      by false e = let k : length (selected d present) ≡ 0 = ap (λ (xs : List ℕ). length xs) (selected-off e) in omega arith

-- Each of the five, and 0, is a reference that may be selected.
abbrev pub Five : List ℕ → Type 0
Five xs = (i : ℕ) → selectable (get_or xs i 0) ≡ true

five-none : Five []
unfolding selectable
five-none i = refl

five-behind : (xs : List ℕ) (r : ℕ) → Five xs → selectable r ≡ true → Five (xs ++ (r ∷ []))
five-behind [] r f h zero = h
five-behind [] r f h (suc i) = five-none i
five-behind (x ∷ xs) r f h zero = f zero
five-behind (x ∷ xs) r f h (suc i) = five-behind xs r (λ j. f (suc j)) h i

five-grew : (t : Bool) (xs : List ℕ) (r : ℕ) → selectable r ≡ true → Five xs → Five (grew t xs r)
five-grew true xs r h f = five-behind xs r f h
five-grew false xs r h f = f

pub five : (d : Description) (present : List ℕ) → Five (selected d present)
unfolding selectable
five d present i = by (searched d) refl
  where
    by : (b : Bool) → searched d ≡ b → selectable (get_or (selected d present) i 0) ≡ true
    by true e =
        ap (λ (xs : List ℕ). selectable (get_or xs i 0)) (selected-on d present e)
        ∙ five-grew (ltb (length (after-altref d present)) (total d present) && lent present 1) (after-altref d present) 1 refl
        (five-grew (ltb (length (after-altref2 d present)) (total d present) && (lent present 6 && later d 6)) (after-altref2 d present) 6 refl
        (five-grew (lent present 5 && later d 5) (after-bwdref d present) 5 refl
        (five-grew (lent present 4 && later d 4) (after_last d present) 4 refl (five-grew (last_wanted d present) [] 0 refl five-none)))) i
    by false e = ap (λ (xs : List ℕ). selectable (get_or xs i 0)) (selected-off d present e) ∙ five-none i

-- such a reference is below 7
pub below-seven : (r : ℕ) → selectable r ≡ true → r < 7
unfolding selectable
below-seven r h = by (which r 7)
  where
    by : Which r 7 → r < 7
    by (less l) = l
    by (more l) =
        absurd (true≢false (sym h ∙ pick_true (leb r 1) (le-leb 4 r (omega arith)) ∙ lt-leb r 6 (omega arith)))

-- a test for room, as code makes it on its places
pub roomed : {s : Selection} {m n : ℕ} {r v w : Bool} (xs : List ℕ) → s ≡ as_selection xs → m ≡ n → v ≡ w → r ≡ (ltb s.n m && v)
    → r ≡ (ltb (length xs) n && w)
roomed xs e f g h = let k = held xs e in h ∙ cc

-- the references in the code's places are those of the list, and below 7
place : (xs : List ℕ) (i : ℕ) → i < 3 → get_or (as_selection xs).refs i 0 ≡ get_or xs i 0
unfolding as_selection
place xs zero l = refl
place xs (suc zero) l = refl
place xs (suc (suc zero)) l = refl
place xs (suc (suc (suc i))) l = absurd (omega arith)

pub slot-fits : (d : Description) (present : List ℕ) (i : ℕ) {s : Selection} → s ≡ as_selection (selected d present) → i < 3 → get_or s.refs i 0 < 7
slot-fits d present i {s} e l =
    let k = ap (λ (t : Selection). get_or t.refs i 0) e ∙ place (selected d present) i l in
    let b = below-seven (get_or (selected d present) i 0) (five d present i) in
    omega arith
