-- What holds a component to its bounds, one turn of the clamp, and where clamped vectors lie.
-- Assumes nothing.
use mathlib.Core.Path.{◌≡◌, sym, ap, ◌∙◌, subst⁻¹}
use mathlib.Core.Bool.{true}
use mathlib.Core.List.{List, [], ◌∷◌, map}
use Prim.Native.Nat.{ℕ, min, ◌+◌, ◌^◌, ◌<◌, zero-le}
use native.Mathlib.Omega.{arith}
use lib.ListN.{get_or, set, length-set}
use lib.IntN.{ℤ, pos, negsuc, neg_ℤ, nat_abs}
use lib.Signed.{mag, ◌≤ℤ◌}
use Rattle.std.proofs.lemmas.Int.{ints}
use Rattle.std.specs.Int.{int_max, int_min}
use borrow.Author.Tests.{le-ltb}
use Rattle.ground.specs.Pick.{pick}
use Rattle.ground.specs.Sign.{signed, below, from_to, clip3}
use Rattle.ground.proofs.Signs.{clip3-sides, clip3-lies}
use Rattle.vector.specs.declared.mv.Mv.{Mv}
use Rattle.vector.proofs.Vectors.{Fits, vector}
use Rattle.cells.specs.Block.{MvPair}
use Rattle.stack.specs.declared.candidate.Candidate.{Candidate}
use Rattle.stack.specs.declared.clamp.Reach.{Reach}
use Rattle.stack.specs.declared.clamp.Bounds.{Bounds}
use Rattle.stack.specs.Stack.{State}
use Rattle.stack.specs.Code.Numbers.{pair_bits, pair_in, cand_at, found_at, Held}
use Rattle.stack.specs.Clamp.{clamped_mv, clamped_pair, clamped_one, clamped}
use Rattle.stack.specs.Code.Clamp.{lowest, highest, bounds_of, Ordered, clipped_mv, clipped_pair}
use Rattle.stack.proofs.Helds.{stack-long, cand-is, pair-laid, FitsPair, pair-back}
use Rattle.stack.proofs.Maps.{Turned, turns}
use Rattle.stack.proofs.Carries.{still-held}

-- a component's magnitude is held to a bound that a component can have as it is to the bound
side : (back on : ℕ) (z : ℤ) → mag z < 2 ^ 15
    → min (nat_abs z) (pick (below z) (min back 32768) (min on 32767)) ≡ min (nat_abs z) (pick (below z) back on)
side back on (pos n) h = rw (le-ltb n 0 zero-le) (omega arith)
side back on (negsuc n) h = omega arith

-- so a component is held to them
clipped-too : (back on : ℕ) (z : ℤ) → mag z < 2 ^ 15 → clip3 (lowest back) (highest on) z ≡ clip3 (neg_ℤ (pos back)) (pos on) z
clipped-too back on z h =
    clip3-sides (min back 32768) (min on 32767) z ∙ ap (signed (below z)) (side back on z h) ∙ sym (clip3-sides back on z)

-- and a vector
clipped-mv : (r : Reach) (v : Mv) → Fits v → clipped_mv (bounds_of r) v ≡ clamped_mv r v
unfolding clipped_mv clamped_mv
clipped-mv r v f = rw (clipped-too r.up r.down v.y f.y, clipped-too r.left r.right v.x f.x)

-- std's clamp, whose bounds lie in order, is the standard's
clamp-is : (lo hi z : ℤ) → lo ≤ℤ hi → int_max lo (int_min z hi) ≡ clip3 lo hi z
unfolding clip3
clamp-is lo hi z h = grind (arith, ints)

-- the bounds that a reach is made to
pub in-order : (r : Reach) → Ordered (bounds_of r)
in-order r = record { y = omega (arith, ints); x = omega (arith, ints) }

pub clamped-mv : (b : Bounds) (v : Mv) → Ordered b → {y x : ℤ} → y ≡ int_max b.up (int_min v.y b.down) → x ≡ int_max b.left (int_min v.x b.right)
    → ◌≡◌ {A = Mv} (record { y = y; x = x }) (clipped_mv b v)
unfolding clipped_mv
clamped-mv b v o e f = vector (e ∙ clamp-is b.up b.down v.y o.y) (f ∙ clamp-is b.left b.right v.x o.x)

-- one turn of the clamp: p is the pair that was read, q what it is held to, k the number that is stored
pub clamps : (r : Reach) (l₀ l : List ℕ) (i : ℕ) {b : Bounds} {p q : MvPair} {k : ℕ} → Held l → i < 8 → Turned (clamped_one r) (found_at l₀) i (found_at l)
    → p ≡ pair_in (get_or l i 0) → FitsPair p → b ≡ bounds_of r → q ≡ clipped_pair b p → FitsPair q → k ≡ pair_bits q
    → Held (set l i k) × Turned (clamped_one r) (found_at l₀) (i + 1) (found_at (set l i k))
unfolding cand_at
clamps r l₀ l i {b} {p} {q} {k} h n t e o a j f g =
    let d : q ≡ clamped_pair r p = j ∙ rw (a, clipped-mv r p.first o.first, clipped-mv r p.second o.second) in
    let w = get_or l (8 + i) 0 in
    let u = pair-laid l i k h.size n in
    let m : pair_in k ≡ clamped_pair r (pair_in (get_or l i 0)) = ap pair_in g ∙ pair-back q f ∙ d ∙ ap (clamped_pair r) e in
    let c = ap (λ (x : MvPair). record { mv = x; weight = w }) m ∙ ap (clamped_one r) (sym (cand-is l i n)) in
    (still-held h (length-set l i k) u, subst⁻¹ (Turned (clamped_one r) (found_at l₀) (i + 1)) u (turns t (omega (arith, stack-long l₀, n)) c))

-- both components lie in their reach
pub record Inside (r : Reach) (v : Mv) : Type 0 where
  pub y : from_to (neg_ℤ (pos r.up)) (pos r.down) v.y ≡ true
  pub x : from_to (neg_ℤ (pos r.left)) (pos r.right) v.x ≡ true

pub mv-inside : (r : Reach) (v : Mv) → Inside r (clamped_mv r v)
unfolding clamped_mv
mv-inside r v = record { y = clip3-lies r.up r.down v.y; x = clip3-lies r.left r.right v.x }

-- each vector of each candidate
abbrev pub AllInside : Reach → List Candidate → Type 0
AllInside r [] = Unit
AllInside r (c ∷ cs) = Inside r c.mv.first × Inside r c.mv.second × AllInside r cs

all-inside : (r : Reach) (l : List Candidate) → AllInside r (map (clamped_one r) l)
all-inside r [] = tt
all-inside r (c ∷ cs) = (mv-inside r c.mv.first, mv-inside r c.mv.second, all-inside r cs)

pub clamped-inside : (r : Reach) (s : State) → AllInside r (clamped r s).cands
unfolding clamped
clamped-inside r s = all-inside r s.cands
