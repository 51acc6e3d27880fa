-- A loop that changes each candidate in its place maps the candidates in use.
-- Assumes nothing.
use mathlib.Core.Path.{◌≡◌, refl, sym, ap, ◌∙◌}
use mathlib.Core.List.{List, [], ◌∷◌, ◌++◌, map}
use Prim.Native.Nat.{ℕ, zero, suc, ◌+◌, ◌≤◌, ◌<◌}
use native.Mathlib.Omega.{arith}
use native.Mathlib.Numerals.{add-one}
use lib.ListN.{length, get_or, set, take, drop}
use Rattle.stack.specs.declared.candidate.Candidate.{Candidate}
use Rattle.stack.specs.Stack.{State, nobody, with_cands}
use Rattle.stack.specs.Code.Found.{Found, with_stack, live, view}

module _ (f : Candidate → Candidate) where
  -- the first i are changed
  pub mapped : ℕ → List Candidate → List Candidate
  mapped i l = map f (take i l) ++ drop i l

  pub none-mapped : (l : List Candidate) → mapped 0 l ≡ l
  unfolding mapped
  none-mapped l = refl

  -- the next one is as it was
  pub mapped_at : (i : ℕ) (l : List Candidate) → get_or (mapped i l) i nobody ≡ get_or l i nobody
  unfolding mapped
  mapped_at zero l = refl
  mapped_at (suc i) [] = refl
  mapped_at (suc i) (x ∷ xs) = mapped_at i xs

  pub one_more : (i : ℕ) (l : List Candidate) → i < length l → set (mapped i l) i (f (get_or l i nobody)) ≡ mapped (suc i) l
  unfolding mapped
  one_more i [] h = absurd (omega arith)
  one_more zero (x ∷ xs) h = refl
  one_more (suc i) (x ∷ xs) h = ap (λ (l : List Candidate). f x ∷ l) (one_more i xs (omega arith))

  pub all-mapped : (n : ℕ) (l : List Candidate) → n ≤ length l → take n (mapped n l) ≡ map f (take n l)
  unfolding mapped
  all-mapped zero l h = refl
  all-mapped (suc n) [] h = absurd (omega arith)
  all-mapped (suc n) (x ∷ xs) h = ap (λ (l : List Candidate). f x ∷ l) (all-mapped n xs (omega arith))

-- what the loop keeps: t is the stack s with its first i candidates changed
pub record Turned (f : Candidate → Candidate) (s : Found) (i : ℕ) (t : Found) : Type 0 where
  pub is : t ≡ with_stack s (mapped f i s.stack)

pub starts : (f : Candidate → Candidate) (s : Found) → Turned f s 0 s
starts f s = record { is = ap (with_stack s) (sym (none-mapped f s.stack)) }

module _ {f : Candidate → Candidate} {s t : Found} {i : ℕ} (inv : Turned f s i t) where
  pub as-was : get_or t.stack i nobody ≡ get_or s.stack i nobody
  as-was = ap (λ (u : Found). get_or u.stack i nobody) inv.is ∙ mapped_at f i s.stack

  pub turns : {c : Candidate} → i < length s.stack → c ≡ f (get_or t.stack i nobody) → Turned f s (i + 1) (with_stack t (set t.stack i c))
  turns {c} h e =
      record {
        is =
            ap (λ (u : Found). with_stack u (set u.stack i c)) inv.is
            ∙ ap (λ (x : Candidate). with_stack s (set (mapped f i s.stack) i x)) (e ∙ ap f as-was)
            ∙ ap (with_stack s) (one_more f i s.stack h)
            ∙ ap (λ (n : ℕ). with_stack s (mapped f n s.stack)) (sym (add-one i));
      }

  pub same_count : t.count ≡ s.count
  same_count = ap (λ (u : Found). u.count) inv.is

  pub ends : i ≡ s.count → s.count ≤ length s.stack → view t ≡ with_cands (view s) (map f (live s))
  unfolding view live
  ends e h =
      ap view inv.is ∙ ap (λ (n : ℕ). with_cands (view s) (take s.count (mapped f n s.stack))) e
      ∙ ap (with_cands (view s)) (all-mapped f s.count s.stack h)

pub live_of : (s t : Found) {l : List Candidate} → view t ≡ with_cands (view s) l → live t ≡ l
unfolding view
live_of s t e = ap (λ (v : State). v.cands) e
