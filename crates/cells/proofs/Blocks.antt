-- Records by field, and in a buffer.
-- Assumes nothing.
use mathlib.Core.Path.{◌≡◌, refl, sym, ap, ap₂, ◌∙◌}
use mathlib.Core.Logic.{◌⊎◌}
use mathlib.Core.Bool.{true, ◌&&◌}
use mathlib.Core.List.{List, ◌++◌}
use Prim.Native.Nat.{ℕ, ◌+◌, ◌*◌, ◌^◌, ◌≤◌, ◌<◌}
use native.Mathlib.Omega.{arith}
use lib.Dec.{leb}
use lib.IntN.{ℤ, pos, negsuc}
use lib.ListN.{length, get_or}
use lib.Signed.{mag}
use borrow.Author.Tests.{leb-true}
use mir.Syntax.{w8}
use Rattle.ground.specs.Put.{put}
use Rattle.ground.specs.Sign.{from_to}
use Rattle.ground.specs.Twos.{twos8}
use Rattle.ground.proofs.Bits.{same}
use Rattle.ground.proofs.Picks.{both}
use Rattle.ground.proofs.Puts.{put-append, put-length, put-inside}
use Rattle.vector.specs.Vector.{mv_at, mv_bytes}
use Rattle.vector.specs.declared.mv.Mv.{Mv}
use Rattle.vector.proofs.Vectors.{Fits, mv-back, mv-outside}
use Rattle.cells.specs.Block.{block_at, tail_bytes, block_bytes, bound_to, well_block}
use Rattle.cells.specs.Block.{RefPair}
use Rattle.cells.specs.declared.block.Block.{Block}

-- a pair of references whose fields are
pub pair : {p q r s : ℤ} → p ≡ q → r ≡ s → ◌≡◌ {A = RefPair} (record { first = record { 0 = p }; second = record { 0 = r } }) (record { first = record { 0 = q }; second = record { 0 = s } })
pair e f = ap₂ (λ a b. record { first = record { 0 = a }; second = record { 0 = b } }) e f

-- two vectors and what stands behind them, laid one after the other
pub in_three : (l : List ℕ) (i : ℕ) (u v : Mv) (tail : List ℕ)
    → put (put (put l i (mv_bytes u)) (i + 4) (mv_bytes v)) (i + 8) tail ≡ put l i (mv_bytes u ++ (mv_bytes v ++ tail))
in_three l i u v tail =
    let k : i + 8 ≡ i + 4 + 4 = omega arith in
    let m = put l i (mv_bytes u) in
    ap (λ (j : ℕ). put (put m (i + 4) (mv_bytes v)) j tail) k
    ∙ sym (put-append m (i + 4) (mv_bytes v) tail)
    ∙ sym (put-append l i (mv_bytes u) (mv_bytes v ++ tail))

-- every field is a number of its width, as those of a `Block` in code are
pub record Held (b : Block) : Type 0 where
  pub first : Fits b.mv.first
  pub second : Fits b.mv.second
  pub one : mag b.refs.first.0 < 2 ^ 7
  pub two : mag b.refs.second.0 < 2 ^ 7

-- what a well formed record has
pub record Well (b : Block) : Type 0 where
  pub code : b.bs ≤ 21
  pub first : bound_to b.mv.first b.refs.first ≡ true
  pub second : bound_to b.mv.second b.refs.second ≡ true

pub well-is : (b : Block) → well_block b ≡ true → Well b
unfolding well_block
well-is b e =
    let r = b.refs in
    let one = leb b.bs 21 in
    let two = leb b.mf 3 in
    let three = from_to (pos 0) (pos 7) r.first.0 in
    let four = from_to (negsuc 0) (pos 7) r.second.0 in
    let five = bound_to b.mv.first r.first in
    let h5 = both (one && two && three && four && five) (bound_to b.mv.second r.second) e in
    let h4 = both (one && two && three && four) five h5.0 in
    let h3 = both (one && two && three) four h4.0 in
    let h2 = both (one && two) three h3.0 in
    record { code = leb-true b.bs 21 (both one two h2.0).0; first = h4.1; second = h5.1 }

-- a record that was laid down, and read again
pub block_back : (l : List ℕ) (i : ℕ) (b : Block) → 12 * i + 12 ≤ length l → Held b → block_at (put l (12 * i) (block_bytes b)) i ≡ b
unfolding block_at
block_back l i b h f = rw (← in_three l (12 * i) b.mv.first b.mv.second tail)
    (λ k.
    record {
      mv = record { first = first k; second = second k };
      refs = pair (ap twos8 (at 0 (12 * i + 8) (omega arith) (omega arith)) ∙ same w8 b.refs.first.0 f.one) (ap twos8 (at 1 (12 * i + 8 + 1) refl (omega arith)) ∙ same w8 b.refs.second.0 f.two) k;
      bs = at 2 (12 * i + 10) (omega arith) (omega arith) k;
      mf = at 3 (12 * i + 11) (omega arith) (omega arith) k;
    })
  where
    tail : List ℕ
    tail = tail_bytes b.refs b.bs b.mf

    m₁ : List ℕ
    m₁ = put l (12 * i) (mv_bytes b.mv.first)

    m₂ : List ℕ
    m₂ = put m₁ (12 * i + 4) (mv_bytes b.mv.second)

    long₁ : length m₁ ≡ length l
    long₁ = put-length l (12 * i) (mv_bytes b.mv.first)

    long₂ : length m₂ ≡ length l
    long₂ = put-length m₁ (12 * i + 4) (mv_bytes b.mv.second) ∙ long₁

    first : mv_at (put m₂ (12 * i + 8) tail) (12 * i) ≡ b.mv.first
    first =
        mv-outside m₂ (12 * i + 8) tail (12 * i) (◌⊎◌.inl (omega arith))
        ∙ mv-outside m₁ (12 * i + 4) (mv_bytes b.mv.second) (12 * i) (◌⊎◌.inl (omega arith))
        ∙ mv-back l (12 * i) b.mv.first (omega arith) f.first

    second : mv_at (put m₂ (12 * i + 8) tail) (12 * i + 4) ≡ b.mv.second
    second =
        mv-outside m₂ (12 * i + 8) tail (12 * i + 4) (◌⊎◌.inl (omega arith))
        ∙ mv-back m₁ (12 * i + 4) b.mv.second (omega (arith, long₁)) f.second

    at : (j k : ℕ) → k ≡ 12 * i + 8 + j → j < 4 → get_or (put m₂ (12 * i + 8) tail) k 0 ≡ get_or tail j 0
    at j k e g = ap (λ (n : ℕ). get_or (put m₂ (12 * i + 8) tail) n 0) e ∙ put-inside m₂ (12 * i + 8) tail j 0 g (omega (arith, long₂))
