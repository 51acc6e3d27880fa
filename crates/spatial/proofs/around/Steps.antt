-- What a scan's answer makes of it, and of what it ends.
-- Assumes nothing.
use mathlib.Core.Path.{◌≡◌, refl, ◌∙◌, ap}
use mathlib.Core.Bool.{Bool, true, false}
use Prim.Native.Nat.{ℕ, ◌+◌, ◌≤◌, ◌<◌}
use native.Mathlib.Omega.{arith}
use lib.Dec.{eqb, lit≤}
use borrow.Author.Tests.{eq-eqb, ne_eqb, lt-leb, le-ltb}
use Rattle.ground.specs.Pick.{pick}
use Rattle.spatial.specs.declared.site.block.Site.{Site}
use Rattle.spatial.specs.site.Site.{depth_of}
use Rattle.stack.specs.Stack.{State}
use Rattle.stack.specs.Code.Found.{Found, live, view, heft}
use Rattle.spatial.specs.declared.neighbours.read.Line.{Line}
use Rattle.spatial.specs.declared.neighbours.read.NeighbourRead.{NeighbourRead}
use Rattle.spatial.specs.declared.neighbours.want.Want.{Want}
use Rattle.spatial.specs.neighbours.Neighbour.{line_at}
use Rattle.spatial.specs.declared.scan.Scan.{Scan}
use Rattle.spatial.specs.declared.scan.Span.{Span}
use Rattle.spatial.specs.Scan.{ScanOutcome, found, scan_of}
use Rattle.spatial.specs.Code.Scan.{scanned}
use Rattle.spatial.specs.Scan as scans
use Rattle.spatial.specs.declared.around.near.Around.{Around}
use Rattle.spatial.specs.around.Lines.{near_line, far_line, near_span, far_span}
use Rattle.spatial.specs.around.Around.{Went, refused, on, on_scan, near_of, farther, far_of}
use Rattle.spatial.specs.Code.Around.{went, Light}
use Rattle.spatial.proofs.around.Places.{near_down, far-down}

-- nothing that was found weighs nothing, and each scan adds to it
pub no-heft : (s : Found) → s.count ≡ 0 → heft (live s) ≤ 0
unfolding live heft
no-heft s e = rw e (lit≤ tt)

pub more : {a b : ℕ} (m w : ℕ) → b ≤ m → a ≤ b + w → a ≤ m + w
more m w h i = omega arith

pub two-more : {a b : ℕ} (h : ℕ) → b ≤ h + 512 → a ≤ b + 512 → a ≤ h + 1024
two-more h i j = omega arith

pub light : {h : ℕ} (n : ℕ) → h ≤ n → n ≤ 1024 → Light h
light n h i = record { light = omega arith }

-- what `around_by` makes of a scan
abbrev pub by : Scan → ℕ → ℕ → Around
by r above left = record { answer = r.answer; above = above; left = left }

-- a scan, and what has gone before, goes on or is refused
module _ (r : Scan) (s : Found) where
  pub goes_on : r.answer ≡ 0 → scanned r s ≡ found (view s) r.reach
  unfolding scanned
  goes_on e = rw (eq-eqb r.answer 0 e)

  pub stops : (r.answer ≡ 0 → ⊥) → scanned r s ≡ scans.refused r.answer
  unfolding scanned
  stops n = rw (ne_eqb r.answer 0 n)

module _ (a : Around) (s : Found) where
  pub went_on : a.answer ≡ 0 → went a s ≡ on (view s) a.above a.left
  unfolding went
  went_on e = rw (eq-eqb a.answer 0 e)

  pub went-not : (a.answer ≡ 0 → ⊥) → went a s ≡ refused a.answer
  unfolding went
  went-not n = rw (ne_eqb a.answer 0 n)

-- the last scan, whatever its answer
pub ends : (r : Scan) (s : Found) (above left : ℕ) (f : State → ℕ → Went) → on (view s) above left ≡ f (view s) r.reach
    → went (by r above left) s ≡ on_scan (scanned r s) f
unfolding scanned went
ends r s above left f e = cases (eqb r.answer 0)
  where
    cases : (t : Bool)
        → pick t (on (view s) above left) (refused r.answer)
        ≡ on_scan (pick t (found (view s) r.reach) (scans.refused r.answer)) f
    cases true = e
    cases false = refl

-- a scan's reach goes on top of that of the nearer lines
pub reaches : (r : Scan) (s : Found) (reach : ℕ)
    → scanned (record { answer = r.answer; reach = reach + r.reach }) s ≡ farther reach (scanned r s)
unfolding scanned
reaches r s reach = cases (eqb r.answer 0)
  where
    cases : (t : Bool)
        → pick t (found (view s) (reach + r.reach)) (scans.refused r.answer)
        ≡ farther reach (pick t (found (view s) r.reach) (scans.refused r.answer))
    cases true = refl
    cases false = refl

-- a side's line, scanned where there is one
module _ (read : ℕ → ℕ → NeighbourRead) (b : Site) (down : Bool) (q : Want) (s : State) {l : Line} {p : Span} {o : ScanOutcome} (e : o ≡ scan_of (line_at read l) l.down q p s) where
  pub near-is : l ≡ near_line down b → p ≡ near_span down b → (depth_of down b ≡ 0 → ⊥) → o ≡ near_of read b down q s
  unfolding near_of
  near-is i j n = e ∙ rw (i, j, near_down down b, ne_eqb (depth_of down b) 0 n)

  pub far-is : {n reach : ℕ} → l ≡ far_line down b n → p ≡ far_span down b n → reach < n → n ≤ depth_of down b
      → farther reach o ≡ far_of read b down n reach q s
  unfolding far_of
  far-is {n} {reach} i j h k =
      ap (farther reach) e ∙ rw (i, j, far-down down b n, lt-leb n reach h, le-ltb (depth_of down b) n k)
