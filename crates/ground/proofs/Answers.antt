-- What an answer of 0, or a refusal, says of the tests that led to it and of the buffer.
-- Assumes nothing.
use mathlib.Core.Path.{◌≡◌, refl}
use mathlib.Core.Bool.{Bool, true, false}
use mathlib.Core.List.{List}
use Prim.Native.Nat.{ℕ, zero, suc}
use native.Mathlib.Omega.{arith}
use Rattle.ground.specs.Pick.{pick}
use Rattle.ground.specs.Script.{Patch, run, Avoids, Inside}
use Rattle.ground.specs.Answer.{or_else, accepted}

-- a table's line that did not refuse: its test failed, and the rest accepts
pub refused-not : (t : Bool) (n r : ℕ) → pick t (suc n) r ≡ 0 → (t ≡ false) × (r ≡ 0)
refused-not true n r e = absurd (omega arith)
refused-not false n r e = (refl, e)

-- both of two answers accept
pub both-accept : (m n : ℕ) → or_else m n ≡ 0 → (m ≡ 0) × (n ≡ 0)
both-accept zero n e = (refl, e)
both-accept (suc m) n e = absurd (omega arith)

pub or-accepts : (m n : ℕ) → m ≡ 0 → or_else m n ≡ n
or-accepts m n e = rw e

pub or-refuses : (m n : ℕ) → (m ≡ 0 → ⊥) → or_else m n ≡ m
or-refuses zero n h = absurd (h refl)
or-refuses (suc m) n h = refl

-- an accepted call runs its script, a refused one leaves the buffer
pub run-accepted : (n : ℕ) (ps : List Patch) (l : List ℕ) → n ≡ 0 → run ps l ≡ run (accepted n ps) l
run-accepted n ps l e = rw e

pub run-refused : (n : ℕ) (ps : List Patch) (l : List ℕ) → (n ≡ 0 → ⊥) → l ≡ run (accepted n ps) l
unfolding run
run-refused zero ps l h = absurd (h refl)
run-refused (suc n) ps l h = refl

pub accepted-inside : (lo hi n : ℕ) (ps : List Patch) → (n ≡ 0 → Inside lo hi ps) → Inside lo hi (accepted n ps)
accepted-inside lo hi zero ps h = h refl
accepted-inside lo hi (suc n) ps h = tt

pub accepted-avoids : (i n : ℕ) (ps : List Patch) → (n ≡ 0 → Avoids i ps) → Avoids i (accepted n ps)
accepted-avoids i zero ps h = h refl
accepted-avoids i (suc n) ps h = tt
