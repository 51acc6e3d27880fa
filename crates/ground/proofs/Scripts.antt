-- The laws of scripts: how long the buffer is, one script after another, what stays as lent, and what stands where a script has run.
-- Assumes nothing.
use mathlib.Core.Path.{◌≡◌, refl, sym, ap, ◌∙◌}
use mathlib.Core.Logic.{◌⊎◌, ⊎_elim}
use mathlib.Core.List.{List, [], ◌∷◌, ◌++◌}
use Prim.Native.Nat.{ℕ, ◌+◌, ◌≤◌, ◌<◌}
use native.Mathlib.Omega.{arith}
use lib.ListN.{length, get_or}
use Rattle.ground.specs.Put.{put}
use Rattle.ground.specs.Script.{Patch, run, Avoids, Inside}
use Rattle.ground.proofs.Puts.{put-length, put-outside, put-inside, put_local}

pub inside-avoids : (lo hi i : ℕ) (ps : List Patch) → Inside lo hi ps → (i < lo) ⊎ (hi ≤ i) → Avoids i ps
inside-avoids lo hi i [] h o = tt
inside-avoids lo hi i (p ∷ ps) h o = (⊎_elim (λ a. ◌⊎◌.inl (omega arith)) (λ a. ◌⊎◌.inr (omega arith)) o, inside-avoids lo hi i ps h.1 o)

pub inside-append : (lo hi : ℕ) (ps qs : List Patch) → Inside lo hi ps → Inside lo hi qs → Inside lo hi (ps ++ qs)
inside-append lo hi [] qs h k = k
inside-append lo hi (p ∷ ps) qs h k = (h.0, inside-append lo hi ps qs h.1 k)

pub run-append : (ps qs : List Patch) (l : List ℕ) → run (ps ++ qs) l ≡ run qs (run ps l)
unfolding run
run-append [] qs l = refl
run-append (p ∷ ps) qs l = run-append ps qs (put l p.at p.bytes)

pub run_length : (ps : List Patch) (l : List ℕ) → length (run ps l) ≡ length l
unfolding run
run_length [] l = refl
run_length (p ∷ ps) l = run_length ps (put l p.at p.bytes) ∙ put-length l p.at p.bytes

-- a byte that the script avoids is as it was
pub run-outside : (ps : List Patch) (l : List ℕ) (i d : ℕ) → Avoids i ps → get_or (run ps l) i d ≡ get_or l i d
unfolding run
run-outside [] l i d h = refl
run-outside (p ∷ ps) l i d h = run-outside ps (put l p.at p.bytes) i d h.1 ∙ put-outside l p.at p.bytes i d h.0

-- what stands at i afterwards goes by what stood at i, and by no other byte
pub run-local : (ps : List Patch) (l m : List ℕ) (i d : ℕ) → length l ≡ length m → get_or l i d ≡ get_or m i d → get_or (run ps l) i d ≡ get_or (run ps m) i d
unfolding run
run-local [] l m i d n e = e
run-local (p ∷ ps) l m i d n e =
    run-local ps (put l p.at p.bytes) (put m p.at p.bytes) i d
    (put-length l p.at p.bytes ∙ n ∙ sym (put-length m p.at p.bytes))
    (put_local l m p.at p.bytes i d n e)

-- where a patch lays its byte j and no later one covers the place, that byte stands there
pub run_inside : (ps : List Patch) (p : Patch) (qs : List Patch) (l : List ℕ) (j d : ℕ)
    → j < length p.bytes → p.at + length p.bytes ≤ length l → Avoids (p.at + j) qs
    → get_or (run (ps ++ (p ∷ qs)) l) (p.at + j) d ≡ get_or p.bytes j d
unfolding run
run_inside ps p qs l j d h fits clear =
    ap (λ (m : List ℕ). get_or m (p.at + j) d) (run-append ps (p ∷ qs) l)
    ∙ run-outside qs (put (run ps l) p.at p.bytes) (p.at + j) d clear
    ∙ put-inside (run ps l) p.at p.bytes j d h (rw run_length fits)
