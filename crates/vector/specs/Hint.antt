-- get_relative_dist (5.9.3): how far hint a lies after hint b.
use Rattle.std.specs.Prelude.{◌≡◌, true, false, ℕ, zero, suc, ◌+◌, ◌-◌, ◌*◌, ◌%◌, ◌^◌, ltb, ℤ, pos, neg_ℤ}
use Rattle.std.proofs.Math.IntN.{sub_ℕ}
use Rattle.std.specs.Int.Signed.{lt_z}
use Rattle.ground.specs.Pick.{pick}

-- a difference d, reduced modulo 2 ^ suc k, read as a signed number of that many bits
abbrev pub centred : ℕ → ℕ → ℤ
centred k d = pick (ltb d (2 ^ k)) (pos d) (neg_ℤ (pos (2 ^ suc k - d)))

-- 0 where hints have no bits, which is how a stream says that it has none
unfoldable pub distance : ℕ → ℕ → ℕ → ℤ
distance zero a b = pos 0
distance (suc k) a b = centred k ((a + 2 ^ suc k - b) % 2 ^ suc k)

-- What document 01 asks of the distance z of hints of suc k bits: it is a - b but for a multiple of 2 ^ bits, and lies in
-- -2 ^ (bits - 1) .. 2 ^ (bits - 1) - 1. (`sub_ℕ m n` is the integer m - n.) proofs/Hints: `distance` is such a number, and the only one.
pub record Right (k a b : ℕ) (z : ℤ) : Type 0 where
  pub p : ℕ
  pub q : ℕ
  pub congruent : z ≡ sub_ℕ (a + 2 ^ suc k * p) (b + 2 ^ suc k * q)
  pub above : lt_z z (neg_ℤ (pos (2 ^ k))) ≡ false
  pub under : lt_z z (pos (2 ^ k)) ≡ true
