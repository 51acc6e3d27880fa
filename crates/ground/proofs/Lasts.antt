-- The laws of steps on one value: what a view of a buffer shows after scripts, and the last step that counts.
-- Assumes nothing.
use mathlib.Core.Path.{◌≡◌, refl, ap, ◌∙◌}
use mathlib.Core.Bool.{Bool, true, false}
use mathlib.Core.List.{List}
use Prim.Native.Nat.{ℕ, zero, suc, ◌+◌, ◌-◌, ◌≤◌, ◌<◌}
use native.Mathlib.Omega.{arith}
use lib.ListN.{length}
use Rattle.ground.specs.Pick.{pick}
use Rattle.ground.specs.Script.{Patch, run}
use Rattle.ground.specs.Span.{over, span}
use Rattle.ground.specs.Last.{each, fold, last}
use Rattle.ground.proofs.Scripts.{run-append, run_length}

-- THE VIEW: where each step's script makes g of what a view shows, for every buffer as long, all the scripts make the fold of it
pub view : {A : Type 0} (see : List ℕ → A) (f : ℕ → List Patch) (g : ℕ → A → A) (n a e : ℕ)
    → ((x : ℕ) → a ≤ x → x < e → (l : List ℕ) → length l ≡ n → see (run (f x) l) ≡ g x (see l))
    → (l : List ℕ) → length l ≡ n → see (run (span f a e) l) ≡ fold g a e (see l)
unfolding span fold each run over
view see f g n a e h l q = go (e - a) a l q (λ x p r. h x p (omega arith))
  where
    go : (k a : ℕ) (l : List ℕ) → length l ≡ n → ((x : ℕ) → a ≤ x → x < a + k → (l : List ℕ) → length l ≡ n → see (run (f x) l) ≡ g x (see l))
        → see (run (over f k a) l) ≡ each g k a (see l)
    go zero a l q h = refl
    go (suc k) a l q h =
        ap see (run-append (f a) (over f k (suc a)) l)
        ∙ go k (suc a) (run (f a) l) (run_length (f a) l ∙ q) (λ x p r. h x (omega arith) (omega arith))
        ∙ ap (each g k (suc a)) (h a (omega arith) (omega arith) l q)

module _ {A : Type 0} (g : ℕ → A → A) where
  each-split : (m n a : ℕ) (d : A) → each g (m + n) a d ≡ each g n (a + m) (each g m a d)
  unfolding each
  each-split zero n a d =
      let p : zero + n ≡ n = omega arith in
      let q : a ≡ a + zero = omega arith in
      ap (λ (k : ℕ). each g k a d) p ∙ ap (λ (k : ℕ). each g n k d) q
  each-split (suc m) n a d =
      let p : suc m + n ≡ suc (m + n) = omega arith in
      let q : suc a + m ≡ a + suc m = omega arith in
      ap (λ (k : ℕ). each g k a d) p ∙ each-split m n (suc a) (g a d) ∙ ap (λ (k : ℕ). each g n k (each g m (suc a) (g a d))) q

  pub fold-split : (a b c : ℕ) → a ≤ b → b ≤ c → (d : A) → fold g a c d ≡ fold g b c (fold g a b d)
  unfolding fold
  fold-split a b c h k d =
      let p : c - a ≡ b - a + (c - b) = omega arith in
      let q : a + (b - a) ≡ b = omega arith in
      ap (λ (n : ℕ). each g n a d) p ∙ each-split (b - a) (c - b) a d ∙ ap (λ (n : ℕ). each g (c - b) n (each g (b - a) a d)) q

  -- steps that change nothing
  pub fold-still : (a e : ℕ) (d : A) → ((x : ℕ) → a ≤ x → x < e → g x d ≡ d) → fold g a e d ≡ d
  unfolding fold each
  fold-still a e d h = go (e - a) a (λ x p q. h x p (omega arith))
    where
      go : (n a : ℕ) → ((x : ℕ) → a ≤ x → x < a + n → g x d ≡ d) → each g n a d ≡ d
      go zero a h = refl
      go (suc n) a h = ap (each g n (suc a)) (h a (omega arith) (omega arith)) ∙ go n (suc a) (λ x p q. h x (omega arith) (omega arith))

  pub fold-one : (a : ℕ) (d : A) → fold g a (suc a) d ≡ g a d
  unfolding fold each
  fold-one a d = let p : suc a - a ≡ suc zero = omega arith in ap (λ (n : ℕ). each g n a d) p

module _ {A : Type 0} (here : ℕ → Bool) (value : ℕ → A) where
  -- none counts: as it was
  pub last_none : (a e : ℕ) (d : A) → ((x : ℕ) → a ≤ x → x < e → here x ≡ false) → last here value a e d ≡ d
  last_none a e d h = fold-still (λ x o. pick (here x) (value x) o) a e d (λ x p q. ap (λ (b : Bool). pick b (value x) d) (h x p q))

  -- x counts, and none after it: its value
  pub last-is : (a x e : ℕ) (d : A) → a ≤ x → x < e → here x ≡ true → ((i : ℕ) → x < i → i < e → here i ≡ false) → last here value a e d ≡ value x
  last-is a x e d p q t h =
      fold-split (λ i o. pick (here i) (value i) o) a x e p (omega arith) d
      ∙ fold-split (λ i o. pick (here i) (value i) o) x (suc x) e (omega arith) q (last here value a x d)
      ∙ ap (last here value (suc x) e) (fold-one (λ i o. pick (here i) (value i) o) x (last here value a x d) ∙ ap (λ (b : Bool). pick b (value x) (last here value a x d)) t)
      ∙ last_none (suc x) e (value x) (λ i r s. h i r s)
