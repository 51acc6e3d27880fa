-- Numbers in bytes by place: two lists that agree on their first bytes hold the same there, and a list laid at the start is read again.
-- Assumes nothing.
use mathlib.Core.Path.{◌≡◌, sym, ap, ◌∙◌}
use mathlib.Core.List.{List, [], ◌∷◌, ◌++◌}
use Prim.Native.Nat.{ℕ, zero, suc, ◌+◌, ◌*◌, ◌/◌, ◌%◌, ◌^◌, ◌≤◌, ◌<◌}
use native.Mathlib.Nat.{zero-add}
use native.Mathlib.Omega.{arith}
use lib.IntN.{ℤ}
use lib.ListN.{length, get_or}
use lib.Seq.{get_or-append-add}
use lib.Signed.{mag}
use mir.Syntax.{w16}
use Rattle.ground.specs.Put.{put}
use Rattle.ground.specs.Twos.{half_at, twos16, bits16}
use Rattle.ground.specs.Little.{four_at, four_bytes, fours}
use Rattle.ground.proofs.Puts.{put-inside}
use Rattle.ground.proofs.Littles.{four-whole}
use Rattle.ground.proofs.Bits.{same}

-- two lists with the same first n bytes
abbrev pub Agree : List ℕ → List ℕ → ℕ → Type 0
Agree l m n = (j : ℕ) → j < n → get_or l j 0 ≡ get_or m j 0

module _ (l m : List ℕ) (n : ℕ) (agree : Agree l m n) where
  pub four_same : (k : ℕ) → k + 4 ≤ n → four_at l k ≡ four_at m k
  four_same k h =
      rw (agree k (omega arith), agree (k + 1) (omega arith), agree (k + 2) (omega arith), agree (k + 3) (omega arith))

  pub half-same : (k : ℕ) → k + 2 ≤ n → half_at l k ≡ half_at m k
  half-same k h = rw (agree k (omega arith), agree (k + 1) (omega arith))

-- what was laid at the start
pub laid-agrees : (l bs : List ℕ) (n : ℕ) → length bs ≡ n → n ≤ length l → Agree (put l 0 bs) bs n
laid-agrees l bs n e h j k =
    ap (λ (i : ℕ). get_or (put l 0 bs) i 0) (sym (zero-add j)) ∙ put-inside l 0 bs j 0 (omega arith) (omega arith)

-- a number of two bytes
pub half-read : (z : ℤ) → mag z < 2 ^ 15 → twos16 (bits16 z % 256 + 256 * (bits16 z / 256)) ≡ z
half-read z h = let e : bits16 z % 256 + 256 * (bits16 z / 256) ≡ bits16 z = omega arith in ap twos16 e ∙ same w16 z h

-- number k of numbers one behind the other
behind : (n : ℕ) (ys : List ℕ) (i j : ℕ) → i ≡ 4 + j → get_or (four_bytes n ++ ys) i 0 ≡ get_or ys j 0
behind n ys i j e = ap (λ (k : ℕ). get_or (four_bytes n ++ ys) k 0) e ∙ get_or-append-add (four_bytes n) ys j 0

pub fours-at : (ns rest : List ℕ) (k : ℕ) → k < length ns → get_or ns k 0 < 2 ^ 32 → four_at (fours ns ++ rest) (4 * k) ≡ get_or ns k 0
unfolding fours
fours-at [] rest k h b = absurd (omega arith)
fours-at (n ∷ ns) rest zero h b = four-whole n b
fours-at (n ∷ ns) rest (suc k) h b =
    let ys = fours ns ++ rest in
    rw (
      behind n ys (4 * suc k) (4 * k) (omega arith),
      behind n ys (4 * suc k + 1) (4 * k + 1) (omega arith),
      behind n ys (4 * suc k + 2) (4 * k + 2) (omega arith),
      behind n ys (4 * suc k + 3) (4 * k + 3) (omega arith),
    )
    (fours-at ns rest k (omega arith) b)

-- a list by its entries
