-- The laws of things done one after the other: a loop that does one thing a turn extends a span by that thing.
-- Assumes nothing.
use mathlib.Core.Path.{◌≡◌, refl, sym, ap, ap₂, ◌∙◌, subst}
use mathlib.Core.List.{List, [], ◌∷◌, ◌++◌, append_assoc, append-nil}
use Prim.Native.Nat.{ℕ, zero, suc, ◌+◌, ◌-◌, ◌*◌, ◌/◌, ◌%◌, ◌≤◌, ◌<◌}
use native.Mathlib.Nat.{zero-mul, suc-mul}
use native.Mathlib.Decide.{dec_lt}
use native.Mathlib.Omega.{arith}
use Rattle.ground.specs.Answer.{or_else}
use Rattle.ground.specs.Script.{Patch, run, Avoids, Inside}
use Rattle.ground.specs.Span.{over, span, first_over, first_of}
use Rattle.ground.proofs.Answers.{both-accept, or-accepts, or-refuses}
use Rattle.ground.proofs.Products.{row_of, col-of}
use Rattle.ground.proofs.Scripts.{run-append, inside-append}

-- what holds from x up to e, and at e, holds up to e + 1
pub reach : (P : ℕ → Type 0) (x e : ℕ) → ((i : ℕ) → x ≤ i → i < e → P i) → P e → (i : ℕ) → x ≤ i → i < e + 1 → P i
reach P x e all here i h g = by (dec_lt i e)
  where
    by : Dec (i < e) → P i
    by (yes l) = all i h l
    by (no l) = let k : e ≡ i = omega arith in subst P k here

over-split : (f : ℕ → List Patch) (m n a : ℕ) → over f (m + n) a ≡ over f m a ++ over f n (a + m)
unfolding over
over-split f zero n a =
    let e : zero + n ≡ n = omega arith in
    let g : a + zero ≡ a = omega arith in
    ap (λ (k : ℕ). over f k a) e ∙ ap (over f n) (sym g)
over-split f (suc m) n a =
    let e : suc m + n ≡ suc (m + n) = omega arith in
    let g : suc a + m ≡ a + suc m = omega arith in
    ap (λ (k : ℕ). over f k a) e
    ∙ ap (λ (s : List Patch). f a ++ s) (over-split f m n (suc a) ∙ ap (λ (k : ℕ). over f m (suc a) ++ over f n k) g)
    ∙ sym (append_assoc (f a) (over f m (suc a)) (over f n (a + suc m)))

over-one : (f : ℕ → List Patch) (n a : ℕ) → n ≡ 1 → over f n a ≡ f a
unfolding over
over-one f zero a e = absurd (omega arith)
over-one f (suc zero) a e = append-nil (f a)
over-one f (suc (suc n)) a e = absurd (omega arith)

module _ (f : ℕ → List Patch) where
  pub split : (a b c : ℕ) → a ≤ b → b ≤ c → span f a c ≡ span f a b ++ span f b c
  unfolding span
  split a b c h g =
      let e : c - a ≡ b - a + (c - b) = omega arith in
      let k : a + (b - a) ≡ b = omega arith in
      ap (λ (n : ℕ). over f n a) e ∙ over-split f (b - a) (c - b) a ∙ ap (λ (n : ℕ). over f (b - a) a ++ over f (c - b) n) k

  pub none : (a e : ℕ) → e ≤ a → span f a e ≡ []
  unfolding span over
  none a e h = let k : e - a ≡ 0 = omega arith in ap (λ (n : ℕ). over f n a) k

  pub one : (a : ℕ) → span f a (a + 1) ≡ f a
  unfolding span
  one a = over-one f (a + 1 - a) a (omega arith)

  -- a part laid after the part before it
  pub on : (a b c : ℕ) → a ≤ b → b ≤ c → (l : List ℕ) {s t : List ℕ} → s ≡ run (span f a b) l → t ≡ run (span f b c) s → t ≡ run (span f a c) l
  on a b c h g l {s} {t} e e' =
      e' ∙ ap (run (span f b c)) e ∙ sym (run-append (span f a b) (span f b c) l) ∙ ap (λ (p : List Patch). run p l) (sym (split a b c h g))

  -- one more
  pub more : (a x : ℕ) → a ≤ x → (l : List ℕ) {s t : List ℕ} → s ≡ run (span f a x) l → t ≡ run (f x) s → t ≡ run (span f a (x + 1)) l
  more a x h l {s} {t} e e' = on a x (x + 1) h (omega arith) l e (e' ∙ ap (λ (p : List Patch). run p s) (sym (one x)))

  -- the loop's end
  pub stop : (a x e : ℕ) → x - a ≡ e - a → (l : List ℕ) {s : List ℕ} → s ≡ run (span f a x) l → s ≡ run (span f a e) l
  unfolding span
  stop a x e k l q = q ∙ ap (λ (n : ℕ). run (over f n a) l) k

  -- nothing yet
  pub start : (a : ℕ) (l : List ℕ) → l ≡ run (span f a a) l
  unfolding run
  start a l = ap (λ (p : List Patch). run p l) (sym (none a a (omega arith)))

  -- where nothing is laid
  pub nil : (a e : ℕ) → ((x : ℕ) → a ≤ x → x < e → f x ≡ []) → span f a e ≡ []
  unfolding span over
  nil a e h = go (e - a) a (λ x p q. h x p (omega arith))
    where
      go : (n a : ℕ) → ((x : ℕ) → a ≤ x → x < a + n → f x ≡ []) → over f n a ≡ []
      go zero a h = refl
      go (suc n) a h =
          ap₂ (λ (p q : List Patch). p ++ q) (h a (omega arith) (omega arith)) (go n (suc a) (λ x p q. h x (omega arith) (omega arith)))

-- two that lay the same at each place
pub alike : (f g : ℕ → List Patch) (a e : ℕ) → ((x : ℕ) → a ≤ x → x < e → f x ≡ g x) → span f a e ≡ span g a e
unfolding span over
alike f g a e h = go (e - a) a (λ x p q. h x p (omega arith))
  where
    go : (n a : ℕ) → ((x : ℕ) → a ≤ x → x < a + n → f x ≡ g x) → over f n a ≡ over g n a
    go zero a h = refl
    go (suc n) a h = ap₂ (λ (p q : List Patch). p ++ q) (h a (omega arith) (omega arith)) (go n (suc a) (λ x p q. h x (omega arith) (omega arith)))

-- the same things, numbered from another place on
pub shifted : (f : ℕ → List Patch) (b a e : ℕ) → span (λ t. f (b + t)) a e ≡ span f (b + a) (b + e)
unfolding span over
shifted f b a e =
    let k : b + e - (b + a) ≡ e - a = omega arith in
    go (e - a) a ∙ sym (ap (λ (n : ℕ). over f n (b + a)) k)
  where
    go : (n a : ℕ) → over (λ t. f (b + t)) n a ≡ over f n (b + a)
    go zero a = refl
    go (suc n) a =
        let k : b + suc a ≡ suc (b + a) = omega arith in
        ap (λ (p : List Patch). f (b + a) ++ p) (go n (suc a) ∙ ap (over f n) k)

-- n rows of r things each, one row after the other, are n * r things
pub grid : (g : ℕ → ℕ → List Patch) (r n : ℕ) → span (λ k. g (k / r) (k % r)) 0 (n * r) ≡ span (λ i. span (g i) 0 r) 0 n
grid g r zero = ap (span (λ k. g (k / r) (k % r)) 0) (zero-mul r) ∙ none _ 0 0 (omega arith) ∙ sym (none _ 0 0 (omega arith))
grid g r (suc n) =
    let m = suc-mul n r in
    let e : suc n * r ≡ n * r + r = omega arith in
    let z : n * r ≡ n * r + 0 = omega arith in
    let o : suc n ≡ n + 1 = omega arith in
    ap (span f 0) e
    ∙ split f 0 (n * r) (n * r + r) (omega arith) (omega arith)
    ∙ ap₂ (λ (p q : List Patch). p ++ q) (grid g r n) (ap (λ (a : ℕ). span f a (n * r + r)) z ∙ sym (shifted f (n * r) 0 r) ∙ alike _ (g n) 0 r at_row)
    ∙ ap (λ (q : List Patch). span h 0 n ++ q) (sym (one h n))
    ∙ sym (ap (span h 0) o ∙ split h 0 n (n + 1) (omega arith) (omega arith))
  where
    f : ℕ → List Patch
    f k = g (k / r) (k % r)

    h : ℕ → List Patch
    h i = span (g i) 0 r

    at_row : (t : ℕ) → 0 ≤ t → t < r → f (n * r + t) ≡ g n t
    at_row t a l = ap₂ g (row_of n r t l) (col-of n r t l)

-- what no part covers, the whole does not; what holds every part holds the whole
pub avoids-append : (i : ℕ) (ps qs : List Patch) → Avoids i ps → Avoids i qs → Avoids i (ps ++ qs)
avoids-append i [] qs h g = g
avoids-append i (p ∷ ps) qs h g = (h.0, avoids-append i ps qs h.1 g)

pub avoids : (f : ℕ → List Patch) (i a e : ℕ) → ((x : ℕ) → a ≤ x → x < e → Avoids i (f x)) → Avoids i (span f a e)
unfolding span over
avoids f i a e h = go (e - a) a (λ x p q. h x p (omega arith))
  where
    go : (n a : ℕ) → ((x : ℕ) → a ≤ x → x < a + n → Avoids i (f x)) → Avoids i (over f n a)
    go zero a h = tt
    go (suc n) a h = avoids-append i (f a) (over f n (suc a)) (h a (omega arith) (omega arith)) (go n (suc a) (λ x p q. h x (omega arith) (omega arith)))

pub inside : (f : ℕ → List Patch) (lo hi a e : ℕ) → ((x : ℕ) → a ≤ x → x < e → Inside lo hi (f x)) → Inside lo hi (span f a e)
unfolding span over
inside f lo hi a e h = go (e - a) a (λ x p q. h x p (omega arith))
  where
    go : (n a : ℕ) → ((x : ℕ) → a ≤ x → x < a + n → Inside lo hi (f x)) → Inside lo hi (over f n a)
    go zero a h = tt
    go (suc n) a h = inside-append lo hi (f a) (over f n (suc a)) (h a (omega arith) (omega arith)) (go n (suc a) (λ x p q. h x (omega arith) (omega arith)))

-- ANSWERS. A loop that asks one thing a turn: what is left to ask decides.
module _ (f : ℕ → ℕ) where
  -- nothing is left
  pub asked : (x e : ℕ) → e ≤ x → 0 ≡ first_of f x e
  unfolding first_of first_over
  asked x e h = let k : e - x ≡ 0 = omega arith in sym (ap (λ (n : ℕ). first_over f n x) k)

  opened : (x e : ℕ) → x < e → first_of f x e ≡ or_else (f x) (first_of f (x + 1) e)
  unfolding first_of first_over
  opened x e h =
      let k : e - x ≡ suc (e - (x + 1)) = omega arith in
      let g : suc x ≡ x + 1 = omega arith in
      ap (λ (n : ℕ). first_over f n x) k ∙ ap (λ (y : ℕ). or_else (f x) (first_over f (e - (x + 1)) y)) g

  -- the next one accepts, or answers for all
  pub ask-on : {r : ℕ} (x e : ℕ) → x < e → r ≡ f x → r ≡ 0 → first_of f (x + 1) e ≡ first_of f x e
  ask-on x e h q z = sym (opened x e h ∙ or-accepts (f x) (first_of f (x + 1) e) (sym q ∙ z))

  pub ask-stops : {r : ℕ} (x e : ℕ) → x < e → r ≡ f x → (r ≡ 0 → ⊥) → r ≡ first_of f x e
  ask-stops x e h q n = q ∙ sym (opened x e h ∙ or-refuses (f x) (first_of f (x + 1) e) (λ z. n (q ∙ z)))

  -- all accept where the first refusal is none
  pub all-accept : (a e x : ℕ) → first_of f a e ≡ 0 → a ≤ x → x < e → f x ≡ 0
  unfolding first_of first_over
  all-accept a e x z h g = go (e - a) a z h (omega arith)
    where
      go : (n a : ℕ) → first_over f n a ≡ 0 → a ≤ x → x < a + n → f x ≡ 0
      go zero a z h g = absurd (omega arith)
      go (suc n) a z h g = by (dec_lt a x) (λ l. go n (suc a) (both-accept (f a) (first_over f n (suc a)) z).1 (omega arith) (omega arith))
        where
          by : Dec (a < x) → (a < x → f x ≡ 0) → f x ≡ 0
          by (yes l) rest = rest l
          by (no l) rest = let k : x ≡ a = omega arith in ap f k ∙ (both-accept (f a) (first_over f n (suc a)) z).0

  -- and the other way
  pub none-refuses : (a e : ℕ) → ((x : ℕ) → a ≤ x → x < e → f x ≡ 0) → first_of f a e ≡ 0
  unfolding first_of first_over
  none-refuses a e h = go (e - a) a (λ x l m. h x l (omega arith))
    where
      go : (n a : ℕ) → ((x : ℕ) → a ≤ x → x < a + n → f x ≡ 0) → first_over f n a ≡ 0
      go zero a h = refl
      go (suc n) a h = or-accepts (f a) (first_over f n (suc a)) (h a (omega arith) (omega arith)) ∙ go n (suc a) (λ x l m. h x (omega arith) (omega arith))

-- two that answer the same at each place
pub ask-alike : (f g : ℕ → ℕ) (a e : ℕ) → ((x : ℕ) → a ≤ x → x < e → f x ≡ g x) → first_of f a e ≡ first_of g a e
unfolding first_of first_over
ask-alike f g a e h = go (e - a) a (λ x p q. h x p (omega arith))
  where
    go : (n a : ℕ) → ((x : ℕ) → a ≤ x → x < a + n → f x ≡ g x) → first_over f n a ≡ first_over g n a
    go zero a h = refl
    go (suc n) a h = ap₂ or_else (h a (omega arith) (omega arith)) (go n (suc a) (λ x p q. h x (omega arith) (omega arith)))
