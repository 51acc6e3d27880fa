-- What an exported search's answer says of the lent parts.
-- Assumes nothing.
use mathlib.Core.Path.{◌≡◌, refl}
use mathlib.Core.Bool.{Bool, true, false}
use mathlib.Core.List.{List, []}
use Prim.Native.Nat.{ℕ}
use Rattle.ground.specs.Pick.{pick}
use Rattle.ground.specs.Script.{Patch, run}

-- where a part is too short, and where none is
module _ (t : Bool) (n : ℕ) (ps qs : List Patch) (l m : List ℕ) where
  pub short : t ≡ true → (4 ≡ pick t 4 n) × ((l ≡ run (pick t [] ps) l) × (m ≡ run (pick t [] qs) m))
  unfolding run
  short e = rw e (refl, (refl, refl))

  pub long : {a : ℕ} {x y : List ℕ} → t ≡ false → a ≡ n → x ≡ run ps l → y ≡ run qs m
      → (a ≡ pick t 4 n) × ((x ≡ run (pick t [] ps) l) × (y ≡ run (pick t [] qs) m))
  long e p q r = rw e (p, (q, r))
