-- Bytes that are laid one behind the other, piece by piece, are laid as one.
-- Assumes nothing.
use mathlib.Core.Path.{◌≡◌, refl, sym, ap, ◌∙◌}
use mathlib.Core.List.{List, [], ◌∷◌, ◌++◌}
use Prim.Native.Nat.{ℕ, zero, suc, ◌+◌, ◌-◌, ◌*◌, ◌≤◌, ◌<◌}
use native.Mathlib.Nat.{add-zero}
use native.Mathlib.Numerals.{add-one}
use lib.ListN.{length, get_or, set, take, drop, length-take, length-drop}
use Rattle.std.proofs.lemmas.List.{get_or-take, get_or-drop}
use native.Mathlib.Omega.{arith}
use lib.IntN.{ℤ}
use Rattle.ground.specs.Put.{put}
use Rattle.ground.specs.Twos.{half_of}
use Rattle.ground.proofs.Puts.{put-append}
use Rattle.layout.specs.FrameBytes.{offsets_at}

abbrev pub pieces : List ℕ → ℕ → List (List ℕ) → List ℕ
pieces l i [] = l
pieces l i (b ∷ bs) = pieces (put l i b) (i + length b) bs

abbrev pub flat : List ℕ → List (List ℕ) → List ℕ
flat b [] = b
flat b (d ∷ ds) = b ++ flat d ds

pub as_one : (l : List ℕ) (i : ℕ) (b : List ℕ) (bs : List (List ℕ)) → pieces l i (b ∷ bs) ≡ put l i (flat b bs)
as_one l i b [] = refl
as_one l i b (d ∷ ds) = as_one (put l i b) (i + length b) d ds ∙ sym (put-append l i b (flat d ds))

-- a byte, a signed number and bytes behind it
pub in_three : (l : List ℕ) (i r : ℕ) (z : ℤ) (xs : List ℕ)
    → put (put (set l i r) (i + 1) (half_of z)) (i + 3) xs ≡ put l i (r ∷ (half_of z ++ xs))
unfolding put
in_three l i r z xs =
    let k : i + 3 ≡ i + 1 + 2 = omega arith in
    ap (λ (j : ℕ). put (put (set l i r) (i + 1) (half_of z)) j xs) k
    ∙ as_one l i (r ∷ []) (half_of z ∷ xs ∷ [])

-- seven bytes by their places
pub all-seven : (xs : List ℕ) → length xs ≡ 7 → xs ≡ offsets_at xs 0
unfolding offsets_at
all-seven (a ∷ b ∷ c ∷ d ∷ e ∷ f ∷ g ∷ []) h = refl
all-seven [] h = absurd (omega arith)
all-seven (a ∷ []) h = absurd (omega arith)
all-seven (a ∷ b ∷ []) h = absurd (omega arith)
all-seven (a ∷ b ∷ c ∷ []) h = absurd (omega arith)
all-seven (a ∷ b ∷ c ∷ d ∷ []) h = absurd (omega arith)
all-seven (a ∷ b ∷ c ∷ d ∷ e ∷ []) h = absurd (omega arith)
all-seven (a ∷ b ∷ c ∷ d ∷ e ∷ f ∷ []) h = absurd (omega arith)
all-seven (a ∷ b ∷ c ∷ d ∷ e ∷ f ∷ g ∷ y ∷ ys) h = absurd (omega arith)

-- seven bytes of a part
part-at : (l : List ℕ) (i k : ℕ) → k < 7 → get_or (take 7 (drop i l)) k 0 ≡ get_or l (i + k) 0
part-at l i k h = get_or-take 7 (drop i l) k 0 h ∙ get_or-drop i l k 0

pub seven_from : (l : List ℕ) (i : ℕ) → i + 7 ≤ length l → take 7 (drop i l) ≡ offsets_at l i
unfolding offsets_at
seven_from l i h =
    let p = λ (k : ℕ) (m : k < 7). part-at l i k m in
    all-seven (take 7 (drop i l)) (omega (arith, length-take 7 (drop i l), length-drop i l))
    ∙ rw (p 0 (omega arith) ∙ ap (λ (k : ℕ). get_or l k 0) (add-zero i), p 1 (omega arith), p 2 (omega arith), p 3 (omega arith), p 4 (omega arith), p 5 (omega arith), p 6 (omega arith))

-- pieces of four bytes, one for each number from i on
unfoldable pub fours_of : (ℕ → List ℕ) → (i n : ℕ) → List ℕ
fours_of f i zero = []
fours_of f i (suc n) = f i ++ fours_of f (suc i) n

pub next_four : (s t : List ℕ) (f : ℕ → List ℕ) (at i n : ℕ) → i < n → length (f i) ≡ 4 → t ≡ put s (at + 4 * i) (f i)
    → put t (at + 4 * (i + 1)) (fours_of f (i + 1) (n - (i + 1))) ≡ put s (at + 4 * i) (fours_of f i (n - i))
unfolding fours_of
next_four s t f at i n h four q =
    let k : n - i ≡ suc (n - suc i) = omega arith in
    let p : at + 4 * (i + 1) ≡ at + 4 * i + length (f i) = omega arith in
    rw (p, add-one i, k, q) (sym (put-append s (at + 4 * i) (f i) (fours_of f (suc i) (n - suc i))))

pub no_four : (s : List ℕ) (at : ℕ) (f : ℕ → List ℕ) (i n : ℕ) → n ≤ i → put s at (fours_of f i (n - i)) ≡ s
unfolding fours_of put
no_four s at f i n h = let k : n - i ≡ 0 = omega arith in rw k
