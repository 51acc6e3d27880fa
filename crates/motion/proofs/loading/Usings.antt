-- The uses of a load: put together one after the other, at most three, each of a field and with distances in range.
-- Assumes nothing.
use Rattle.std.specs.Prelude.{Option, None, Some, ℤ}
use mathlib.Core.Path.{◌≡◌, refl, sym, ap, ◌∙◌, subst⁻¹}
use mathlib.Core.Bool.{Bool, true, false, ◌&&◌}
use mathlib.Core.List.{List, [], ◌∷◌, ◌++◌, append-nil}
use Prim.Native.Nat.{ℕ, zero, suc, ◌+◌, ◌-◌, ◌≤◌, ◌<◌, min}
use native.Mathlib.Decide.{dec_lt}
use native.Mathlib.Omega.{arith}
use lib.Dec.{leb}
use lib.ListN.{length, get_or, set, replicate, length-append, get_or-append, get_or-eq_default}
use lib.Seq.{get_or-append-add}
use borrow.Author.Tests.{leb-true}
use Rattle.ground.specs.Below.{all_below}
use Rattle.ground.specs.Pick.{pick}
use Rattle.ground.proofs.Belows as belows
use Rattle.ground.proofs.Picks.{both}
use Rattle.frame.specs.declared.mfmv.Mfmv.{Mfmv}
use Rattle.frame.specs.declared.record.Frame.{Frame}
use Rattle.frame.specs.hints.Description.{under}
use Rattle.frame.specs.Mfmv.{no_mfmv, well_cur, well_mfmv}
use Rattle.frame.specs.hints.Selection.{selectable}
use Rattle.frame.specs.hints.Distances.{well_hint}
use Rattle.frame.specs.extent.Sizes.{well_sizes}
use Rattle.frame.specs.Record.{no_hint, well_frame}
use Rattle.frame.proofs.hints.Described.{under_at}
use Rattle.motion.specs.declared.loading.used.Used.{Used}
use Rattle.motion.specs.declared.loading.used.Uses.{Uses}
use Rattle.motion.specs.loading.Used.{used_as, use_for, use_of, used_of, used, idle_use, held_as, uses_of, no_use, use_at}
use Rattle.motion.specs.loading.Fields.{three, chosen}
use Rattle.motion.specs.Code.Needs.{taken_in}
use Rattle.motion.specs.Code.Places.{Numbers}

set-pad : {A : Type 0} (xs : List A) (k : ℕ) (d u : A) → set (xs ++ replicate (suc k) d) (length xs) u ≡ (xs ++ (u ∷ [])) ++ replicate k d
set-pad [] k d u = refl
set-pad (x ∷ xs) k d u = ap (λ (l : List _). x ∷ l) (set-pad xs k d u)

held : {n k : ℕ} {l m : List Used} → n ≡ k → l ≡ m → ◌≡◌ {A = Uses} (record { n = n; at = l }) (record { n = k; at = m })
held e f = λ t. record { n = e t; at = f t }

-- one more reference looked at
taken : (xs : List Used) (m : Mfmv) (r : Option ℤ) → length xs < 3 → taken_in (held_as xs) m r ≡ held_as (xs ++ use_for m r)
unfolding held_as
taken xs m None h = ap held_as (sym (append-nil xs))
taken xs m (Some z) h =
    let l = length-append xs (used_as m z ∷ []) in
    let n : length xs + 1 ≡ length (xs ++ (used_as m z ∷ [])) = omega arith in
    let k : 3 - length xs ≡ suc (2 - length xs) = omega arith in
    let j : 2 - length xs ≡ 3 - length (xs ++ (used_as m z ∷ [])) = omega arith in
    held n
    (ap (λ (i : ℕ). set (xs ++ replicate i idle_use) (length xs) (used_as m z)) k
    ∙ set-pad xs (2 - length xs) idle_use (used_as m z)
    ∙ ap (λ (i : ℕ). (xs ++ (used_as m z ∷ [])) ++ replicate i idle_use) j)

pub used-on : (ms : List Mfmv) (i : ℕ) {us t : Uses} → us ≡ held_as (used_of ms i) → length (used_of ms i) < 3
    → t ≡ taken_in us (get_or ms i no_mfmv) (get_or ms i no_mfmv).ref2cur → t ≡ held_as (used_of ms (i + 1))
unfolding used_of use_of
used-on ms i e h q =
    let k : i + 1 ≡ suc i = omega arith in
    q ∙ ap (λ (u : Uses). taken_in u (get_or ms i no_mfmv) (get_or ms i no_mfmv).ref2cur) e
    ∙ taken (used_of ms i) (get_or ms i no_mfmv) (get_or ms i no_mfmv).ref2cur h ∙ ap (λ (n : ℕ). held_as (used_of ms n)) (sym k)

use-most : (m : Mfmv) (r : Option ℤ) → length (use_for m r) ≤ 1
use-most m None = omega arith
use-most m (Some z) = omega arith

pub used-most : (ms : List Mfmv) (n : ℕ) → length (used_of ms n) ≤ n
unfolding used_of use_of
used-most ms zero = omega arith
used-most ms (suc n) =
    let m = get_or ms n no_mfmv in
    let l = length-append (used_of ms n) (use_for m m.ref2cur) in
    omega (arith, used-most ms n, use-most m m.ref2cur)

-- a use whose field is one of the seven, and whose distances are in range
pub record Able (u : Used) : Type 0 where
  pub place : u.field < 7
  pub numbers : Numbers u.motion

low : (r : ℕ) → selectable r ≡ true → r < 7
unfolding selectable
low r h = by (leb 4 r) h
  where
    by : (b : Bool) → pick b (leb r 6) (leb r 1) ≡ true → r < 7
    by true e = omega (arith, leb-true r 6 e)
    by false e = omega (arith, leb-true r 1 e)

short : (xs : List ℕ) → under xs 32 ≡ true → (i : ℕ) → get_or xs i 0 ≤ 31
short xs h i = by (dec_lt i (length xs))
  where
    by : Dec (i < length xs) → get_or xs i 0 ≤ 31
    by (yes l) = omega (arith, under_at xs 32 i h l)
    by (no l) = let e = get_or-eq_default xs 0 {n = i} (omega arith) in omega arith

able-one : (m : Mfmv) (r : Option ℤ) → selectable m.reference ≡ true → well_cur r ≡ true → under m.ref2ref 32 ≡ true
    → (i : ℕ) → i < length (use_for m r) → Able (get_or (use_for m r) i no_use)
unfolding well_cur
able-one m None s w u i h = absurd (omega arith)
able-one m (Some z) s w u zero h =
    record { place = low m.reference s; numbers = record { cur = leb-true _ _ w; apart = short m.ref2ref u } }
able-one m (Some z) s w u (suc i) h = absurd (omega arith)

able-of : (m : Mfmv) → well_mfmv m ≡ true → (i : ℕ) → i < length (use_of m) → Able (get_or (use_of m) i no_use)
unfolding well_mfmv use_of
able-of m h i l =
    let p = both (selectable m.reference && well_cur m.ref2cur) (under m.ref2ref 32) h in
    let q = both (selectable m.reference) (well_cur m.ref2cur) p.0 in
    able-one m m.ref2cur q.0 q.1 p.1 i l

able-all : (ms : List Mfmv) (n : ℕ) → ((j : ℕ) → j < n → well_mfmv (get_or ms j no_mfmv) ≡ true) → (i : ℕ) → i < length (used_of ms n) → Able (get_or (used_of ms n) i no_use)
unfolding used_of
able-all ms zero h i l = absurd (omega arith)
able-all ms (suc n) h i l = by (dec_lt i (length xs)) (able-all ms n (λ j g. h j (omega arith)))
  where
    xs : List Used
    xs = used_of ms n

    ys : List Used
    ys = use_of (get_or ms n no_mfmv)

    by : Dec (i < length xs) → ((j : ℕ) → j < length xs → Able (get_or xs j no_use)) → Able (get_or (xs ++ ys) i no_use)
    by (yes k) before = subst⁻¹ Able (get_or-append xs ys no_use i k) (before i k)
    by (no k) before =
        let e : i ≡ length xs + (i - length xs) = omega arith in
        let a = length-append xs ys in
        subst⁻¹ Able (ap (λ (j : ℕ). get_or (xs ++ ys) j no_use) e ∙ get_or-append-add xs ys (i - length xs) no_use)
        (able-of (get_or ms n no_mfmv) (h n (omega arith)) (i - length xs) (omega arith))

-- a well-formed frame's three places are
selected : (f : Frame) → well_frame f ≡ true → (j : ℕ) → j < 3 → well_mfmv (get_or f.mfmvs j no_mfmv) ≡ true
unfolding well_frame
selected f h j g =
    let slots = all_below 3 (λ i. well_mfmv (get_or f.mfmvs i no_mfmv)) in
    let hints = all_below 7 (λ i. well_hint (get_or f.refs i no_hint)) in
    let front = well_sizes f.sizes && leb f.use_ref_frame_mvs 1 && leb f.temporal 1 in
    belows.at (λ i. well_mfmv (get_or f.mfmvs i no_mfmv)) 3 j (both (front && leb f.n_mfmvs 3 && hints) slots h).1 g

pub few-uses : (f : Frame) → (uses_of f).n ≤ 3
unfolding held_as used
few-uses f = omega (arith, used-most f.mfmvs (min 3 f.n_mfmvs))

pub able-uses : (f : Frame) → well_frame f ≡ true → (i : ℕ) → i < (uses_of f).n → Able (use_at (uses_of f) i)
unfolding held_as used
able-uses f h i l =
    subst⁻¹ Able (get_or-append (used_of f.mfmvs (min 3 f.n_mfmvs)) _ no_use i l)
    (able-all f.mfmvs (min 3 f.n_mfmvs) (λ j g. selected f h j (omega arith)) i l)

pub able-fields : (f : Frame) {us : Uses} → us ≡ uses_of f → well_frame f ≡ true → (us.n ≤ 3) × ((i : ℕ) → i < us.n → (use_at us i).field < 7)
able-fields f e h =
    subst⁻¹ (λ (us : Uses). (us.n ≤ 3) × ((i : ℕ) → i < us.n → (use_at us i).field < 7)) e (few-uses f, λ i l. (able-uses f h i l).place)

-- three fields, each that of its use, are those chosen
pub chosen_is : (us : Uses) (fields : List (List ℕ)) {a b c : List ℕ} → a ≡ get_or fields (use_at us 0).field [] → b ≡ get_or fields (use_at us 1).field []
    → c ≡ get_or fields (use_at us 2).field [] → three a b c ≡ chosen us fields
unfolding chosen
chosen_is us fields p q r = λ i. three (p i) (q i) (r i)
