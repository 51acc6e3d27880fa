-- What lies behind a part's first bytes.
-- Assumes nothing.
use mathlib.Core.Path.{◌≡◌}
use mathlib.Core.List.{List}
use Prim.Native.Nat.{ℕ, ◌-◌}
use native.Mathlib.Omega.{arith}
use lib.ListN.{length, take, drop, length-drop}
use lib.Seq.{take_all}

pub behind : (l : List ℕ) (k : ℕ) → take (length l - k) (drop k l) ≡ drop k l
behind l k = take_all (length l - k) (drop k l) (omega (arith, length-drop k l))
