-- What the definitions of a scan say, for the proofs of its functions.
-- Assumes nothing.
use mathlib.Core.Path.{◌≡◌, refl, sym, ◌∙◌, subst}
use mathlib.Core.Bool.{Bool, true, false, not}
use Prim.Native.Nat.{ℕ, zero, suc, ◌+◌, ◌*◌, ◌≤◌, ◌<◌, max, min}
use native.Mathlib.Nat.{lt_irrefl, mul-le-mul}
use native.Mathlib.Omega.{arith}
use lib.Dec.{eqb, ltb, lit≤}
use borrow.Author.Tests.{lt-ltb, le-ltb, ne_eqb}
use Rattle.ground.specs.Pick.{pick}
use Rattle.cells.specs.declared.pos.Pos4.{Pos4}
use Rattle.stack.specs.Stack.{State}
use Rattle.stack.specs.Code.Found.{Found}
use Rattle.spatial.specs.declared.neighbours.read.Neighbour.{Neighbour}
use Rattle.spatial.specs.declared.neighbours.read.NeighbourRead.{NeighbourRead}
use Rattle.spatial.specs.declared.neighbours.read.NeighbourRead.TheVariants as read_as
use Rattle.spatial.specs.declared.neighbours.want.Want.{Want}
use Rattle.spatial.specs.neighbours.Neighbour.{along_of}
use Rattle.spatial.proofs.neighbours.Known.{Known, Told, is_some, some-side, across-is}
use Rattle.spatial.specs.declared.scan.Span.{Span}
use Rattle.spatial.specs.declared.scan.Scan.{Scan}
use Rattle.spatial.specs.declared.scan.Next.{Next}
use Rattle.spatial.specs.declared.scan.Next.TheVariants as next-as
use Rattle.spatial.specs.Take.{spatial}
use Rattle.spatial.specs.Scan.{ScanOutcome, refused, found, shorter, next_of, scan_on, weight_of}
use Rattle.spatial.specs.Code.Scan.{scanned, Fair, Sized}

-- a neighbour that was read has sides of 1 to 32 units
pub sides : (down : Bool) (k : Neighbour) → Known k → Sized down k
sides down k n =
    let a = some-side down k n in
    record { some = a.0; most = a.1; wide = rw (across-is down k) (some-side (not down) k n).1 }

-- what a later neighbour counts for, and the number of a refusal
abbrev Steps : Next → Type 0
Steps (next-as.Take k len) = (1 ≤ len.0) × (len.0 ≤ 32)
Steps (next-as.Refused n) = 1 ≤ n

steps-read : (down : Bool) (p : Span) → 1 ≤ p.step.0 → p.step.0 ≤ 4 → (r : NeighbourRead) → Told r → Steps (shorter down p r)
steps-read down p one few (read_as.Refused n) t = is_some t refl refl
steps-read down p one few (read_as.Of k) t = cases (ltb (along_of down k) p.size.0) (sides down k t)
  where
    cases : (b : Bool) → Sized down k → Steps (pick b (next-as.Take k (record { 0 = max p.step.0 (along_of down k) })) (next-as.Refused 9))
    cases true s = (omega (arith, s.some), omega (arith, s.most))
    cases false s = lit≤ tt

-- one turn of the definition
module _ (nb : ℕ → NeighbourRead) (down : Bool) (q : Want) (p : Span) (x : ℕ) (s : State) where
  at-end : (n : ℕ) → p.limit.0 ≤ x → scan_on nb down q p n x s ≡ found s 1
  unfolding scan_on
  at-end zero h = refl
  at-end (suc n) h = rw (le-ltb x p.limit.0 h)

  module _ (n : ℕ) (h : x < p.limit.0) where
    at-refusal : {m : ℕ} → next_of nb down p x ≡ next-as.Refused m → scan_on nb down q p (suc n) x s ≡ refused m
    unfolding scan_on
    at-refusal e = rw (lt-ltb x p.limit.0 h, e)

    at_next : {k : Neighbour} {len : Pos4} → next_of nb down p x ≡ next-as.Take k len
        → scan_on nb down q p (suc n) x s ≡ scan_on nb down q p n (x + len.0) (spatial down (2 * len.0) k.block q s)
    unfolding scan_on
    at_next e = rw (lt-ltb x p.limit.0 h, e)

-- The scanned o is that of going on from unit x, among neighbours that were read, with a number that is enough for the units that are left.
pub record Goes (nb : ℕ → NeighbourRead) (down : Bool) (q : Want) (p : Span) (o : ScanOutcome) (x : ℕ) (s : State) : Type 0 where
  pub told : (i : ℕ) → Told (nb i)
  pub left : ℕ
  pub enough : p.limit.0 ≤ x + left
  pub same : o ≡ scan_on nb down q p left x s

-- the loop's turns
module _ {nb : ℕ → NeighbourRead} {down : Bool} {q : Want} {p : Span} {o : ScanOutcome} {x : ℕ} {s : State} where
  pub starts : ((i : ℕ) → Told (nb i)) → o ≡ scan_on nb down q p p.limit.0 x s → Goes nb down q p o x s
  starts t e = record { told = t; left = p.limit.0; enough = omega arith; same = e }

  module _ (g : Goes nb down q p o x s) where
    pub ends : p.limit.0 ≤ x → o ≡ found s 1
    ends h = g.same ∙ at-end nb down q p x s g.left h

    module _ {heft : ℕ} (f : Fair heft p) {r : Next} (a : r ≡ next_of nb down p x) where
      steps : Steps r
      unfolding next_of
      steps = rw a (steps-read down p f.one f.few (nb x) (g.told x))

      pub some-refusal : {m : ℕ} → r ≡ next-as.Refused m → 1 ≤ m
      some-refusal b = subst Steps b steps

      pub len-fits : {k : Neighbour} {len : Pos4} → r ≡ next-as.Take k len → (1 ≤ len.0) × (len.0 ≤ 32)
      len-fits b = subst Steps b steps

      pub refuses : {m : ℕ} → x < p.limit.0 → r ≡ next-as.Refused m → o ≡ refused m
      refuses {m} h b = cases g.left g.enough g.same
        where
          cases : (n : ℕ) → p.limit.0 ≤ x + n → o ≡ scan_on nb down q p n x s → o ≡ refused m
          cases zero i e = absurd (lt_irrefl x (omega arith))
          cases (suc n) i e = e ∙ at-refusal nb down q p x s n h (sym a ∙ b)

      pub goes : {k : Neighbour} {len : Pos4} → x < p.limit.0 → r ≡ next-as.Take k len
          → Goes nb down q p o (x + len.0) (spatial down (2 * len.0) k.block q s)
      goes {k} {len} h b = cases g.left g.enough g.same (len-fits b).0
        where
          cases : (n : ℕ) → p.limit.0 ≤ x + n → o ≡ scan_on nb down q p n x s → 1 ≤ len.0
              → Goes nb down q p o (x + len.0) (spatial down (2 * len.0) k.block q s)
          cases zero i e l = absurd (lt_irrefl x (omega arith))
          cases (suc n) i e l =
              record { told = g.told; left = n; enough = omega arith; same = e ∙ at_next nb down q p x s n h (sym a ∙ b) }

-- an answer that is not 0 is the refusal of a scan, whatever was found
pub not_found : (r : Scan) (s : Found) → 1 ≤ r.answer → scanned r s ≡ refused r.answer
unfolding scanned
not_found r s h = rw (ne_eqb r.answer 0 (λ e. lt_irrefl 0 (omega arith)))

-- what a neighbour counts for, where the step and its length are those of a side
pub most-le : {r a b : ℕ} → r ≡ max a b → a ≤ 32 → b ≤ 32 → r ≤ 32
most-le e h i = omega arith

-- the weight of a neighbour as long as the block, for at most three rows
pub weight-le : (p : Span) (across : ℕ) → p.rows ≤ 3 → weight_of p across ≤ 6
unfolding weight_of
weight-le p across h = cases (eqb p.size.0 1)
  where
    cases : (b : Bool) → pick b 2 (max 2 (min (2 * p.rows) across)) ≤ 6
    cases true = lit≤ tt
    cases false = omega arith

pub product_le : (p : Span) (across : ℕ) {m n : ℕ} → p.rows ≤ 3 → m ≤ 32 → n ≡ weight_of p across → m * n ≤ 192
product_le p across {m} {n} h i e =
    let w : n ≤ 6 = rw e (weight-le p across h) in
    let t : m * n ≤ 32 * 6 = mul-le-mul i w in
    omega (arith, t)
