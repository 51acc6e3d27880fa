-- The laws of `put`: all that a proof knows of a buffer.
-- Assumes nothing.
use mathlib.Core.Path.{◌≡◌, refl, sym, ap, ◌∙◌}
use mathlib.Core.Logic.{◌⊎◌, ⊎_elim}
use mathlib.Core.List.{List, [], ◌∷◌, ◌++◌}
use Prim.Native.Nat.{ℕ, zero, suc, ◌+◌, ◌-◌, ◌*◌, ◌≤◌, ◌<◌}
use native.Mathlib.Nat.{add-zero, zero-mul, suc-mul}
use native.Mathlib.Numerals.{sub-one}
use native.Mathlib.Omega.{arith}
use lib.ListN.{length, get_or, set, length-set, length-append}
use borrow.Rule.Slice.PartMut.{put_mid}
use lib.Seq.{get_or-set_other, get_or-set_same}
use Rattle.ground.specs.Put.{put, copies}

pub put-length : (l : List ℕ) (i : ℕ) (bs : List ℕ) → length (put l i bs) ≡ length l
unfolding put
put-length l i [] = refl
put-length l i (b ∷ bs) = put-length (set l i b) (suc i) bs ∙ length-set l i b

-- one after the other
pub put-append : (l : List ℕ) (i : ℕ) (xs ys : List ℕ) → put l i (xs ++ ys) ≡ put (put l i xs) (i + length xs) ys
unfolding put
put-append l i [] ys = rw add-zero
put-append l i (x ∷ xs) ys =
    put-append (set l i x) (suc i) xs ys ∙ ap (λ (k : ℕ). put (put (set l i x) (suc i) xs) k ys) (omega arith)

-- what a copy onto `s[i..i + length bs]` leaves
put-past : (x : ℕ) (l : List ℕ) (i : ℕ) (bs : List ℕ) → put (x ∷ l) (suc i) bs ≡ x ∷ put l i bs
unfolding put
put-past x l i [] = refl
put-past x l i (b ∷ bs) = put-past x (set l i b) (suc i) bs

pub put-mid : (l : List ℕ) (i : ℕ) (bs : List ℕ) → i + length bs ≤ length l → put_mid i (length bs) l bs ≡ put l i bs
unfolding put
put-mid [] zero [] h = refl
put-mid [] zero (b ∷ bs) h = absurd (omega arith)
put-mid [] (suc i) bs h = absurd (omega arith)
put-mid (x ∷ l) zero [] h = refl
put-mid (x ∷ l) zero (b ∷ bs) h = ap (λ t. b ∷ t) (put-mid l zero bs (omega arith)) ∙ sym (put-past b l zero bs)
put-mid (x ∷ l) (suc i) bs h = ap (λ t. x ∷ t) (put-mid l i bs (omega arith)) ∙ sym (put-past x l i bs)

-- outside: as it was
pub put-outside : (l : List ℕ) (i : ℕ) (bs : List ℕ) (j d : ℕ) → (j < i) ⊎ (i + length bs ≤ j) → get_or (put l i bs) j d ≡ get_or l j d
unfolding put
put-outside l i [] j d h = refl
put-outside l i (b ∷ bs) j d h =
    put-outside (set l i b) (suc i) bs j d (⊎_elim (λ p. ◌⊎◌.inl (omega arith)) (λ p. ◌⊎◌.inr (omega arith)) h)
    ∙ get_or-set_other l i j b d (⊎_elim (λ p q. omega arith) (λ p q. omega arith) h)

-- inside: the byte that was laid there
pub put-inside : (l : List ℕ) (i : ℕ) (bs : List ℕ) (j d : ℕ) → j < length bs → i + length bs ≤ length l → get_or (put l i bs) (i + j) d ≡ get_or bs j d
unfolding put
put-inside l i [] j d h fits = absurd (omega arith)
put-inside l i (b ∷ bs) zero d h fits =
    rw add-zero (put-outside (set l i b) (suc i) bs i d (◌⊎◌.inl (omega arith)) ∙ get_or-set_same l i b d (omega arith))
put-inside l i (b ∷ bs) (suc j) d h fits =
    ap (λ (k : ℕ). get_or (put (set l i b) (suc i) bs) k d) (omega arith)
    ∙ put-inside (set l i b) (suc i) bs j d (omega arith) (rw length-set (omega arith))

-- what stands at j afterwards goes by what stood at j, and by no other byte
set_local : (l m : List ℕ) (i b j d : ℕ) → length l ≡ length m → get_or l j d ≡ get_or m j d → get_or (set l i b) j d ≡ get_or (set m i b) j d
set_local [] [] i b j d n e = e
set_local [] (y ∷ m) i b j d n e = absurd (omega arith)
set_local (x ∷ l) [] i b j d n e = absurd (omega arith)
set_local (x ∷ l) (y ∷ m) zero b zero d n e = refl
set_local (x ∷ l) (y ∷ m) zero b (suc j) d n e = e
set_local (x ∷ l) (y ∷ m) (suc i) b zero d n e = e
set_local (x ∷ l) (y ∷ m) (suc i) b (suc j) d n e = set_local l m i b j d (omega arith) e

pub put_local : (l m : List ℕ) (i : ℕ) (bs : List ℕ) (j d : ℕ) → length l ≡ length m → get_or l j d ≡ get_or m j d → get_or (put l i bs) j d ≡ get_or (put m i bs) j d
unfolding put
put_local l m i [] j d n e = e
put_local l m i (b ∷ bs) j d n e =
    put_local (set l i b) (set m i b) (suc i) bs j d (length-set l i b ∙ n ∙ sym (length-set m i b)) (set_local l m i b j d n e)

-- copies of the same bytes, laid one after the other
pub copies-on : (s : List ℕ) {t : List ℕ} (bs : List ℕ) (i next left : ℕ) → next ≡ i + length bs → 0 < left → t ≡ put s i bs
    → put t next (copies (left - 1) bs) ≡ put s i (copies left bs)
unfolding copies
copies-on s bs i next zero k h e = absurd (omega arith)
copies-on s bs i next (suc n) k h e = rw (e, k, sub-one) (sym (put-append s i bs (copies n bs)))

pub copies-done : (s bs : List ℕ) (i left : ℕ) → left ≤ 0 → put s i (copies left bs) ≡ s
unfolding copies put
copies-done s bs i zero h = refl
copies-done s bs i (suc n) h = absurd (omega arith)

pub copies_length : (n : ℕ) (bs : List ℕ) → length (copies n bs) ≡ n * length bs
unfolding copies
copies_length zero bs = sym (zero-mul (length bs))
copies_length (suc n) bs =
    let e = length-append bs (copies n bs) in
    let k = copies_length n bs in
    let m = suc-mul n (length bs) in
    omega arith
