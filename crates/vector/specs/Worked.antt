-- Document 01's worked values P1 to P8: one table, each line a definition's value beside the value that is given, and one claim, which the checker computes.
use Rattle.std.specs.Prelude.{◌≡◌, refl, true, false, List, [], ◌∷◌, map, ℕ, ℤ, pos, neg_ℤ}
use Rattle.ground.specs.Sign.{clip3, round2, round2_signed}
use Rattle.vector.specs.Projection.{rescaled, projected}
use Rattle.vector.specs.Precision.{lowered}
use Rattle.vector.specs.Hint.{distance}

pub record Line : Type 0 where
  pub got : ℤ
  pub want : ℤ

abbrev line : ℤ → ℤ → Line
line g w = record { got = g; want = w }

-- num / den of c
abbrev by : ℤ → ℤ → ℕ → ℤ
by c num den = projected num den c

abbrev minus : ℕ → ℤ
minus n = neg_ℤ (pos n)

abbrev pub table : List Line
table =
    line (by (pos 100) (pos 3) 2) (pos 150)  -- P1
    ∷ line (by (minus 100) (pos 3) 2) (minus 150)
    ∷ line (by (pos 1) (pos 1) 2) (pos 1)  -- P2
    ∷ line (by (minus 1) (pos 1) 2) (minus 1)
    ∷ line (by (pos 1) (pos 1) 3) (pos 0)  -- P3
    ∷ line (by (pos 3) (pos 1) 6) (pos 0)  -- P4
    ∷ line (by (pos 4095) (pos 31) 1) (pos 16383)  -- P5
    ∷ line (by (minus 4095) (pos 31) 1) (minus 16383)
    ∷ line (distance 3 1 7) (pos 2)  -- P6
    ∷ line (distance 3 0 4) (minus 4)
    ∷ line (distance 3 4 0) (minus 4)
    ∷ line (lowered true true (pos 4)) (pos 0)  -- P7
    ∷ line (lowered true false (minus 5)) (minus 8)
    ∷ line (lowered false false (minus 3)) (minus 2)  -- P8
    ∷ []

-- every line's two numbers are the same
pub worked : map (λ (l : Line). l.got) table ≡ map (λ (l : Line). l.want) table
unfolding projected rescaled clip3 round2_signed round2 lowered distance
worked = refl
