-- On its way a search keeps the candidates that it has, at most eight, none lighter than 2: through the neighbours' lines and points (7.10.2.2 to 7.10.2.4).
-- Assumes nothing.
use mathlib.Core.Bool.{Bool, true, false}
use mathlib.Core.List.{List}
use Prim.Native.Nat.{ℕ, zero, suc, ◌+◌, ◌-◌, ◌*◌, ◌/◌, ◌≤◌, max, min}
use native.Mathlib.Nat.{mul-le-mul}
use native.Mathlib.Omega.{arith}
use lib.Dec.{eqb, ltb, leb}
use lib.ListN.{length, length-map}
use Rattle.std.specs.Prelude.{Option, None, Some}
use Rattle.ground.specs.Pick.{pick}
use Rattle.cells.specs.declared.block.Block.{Block}
use Rattle.cells.specs.Block.{MvPair}
use Rattle.spatial.specs.declared.site.block.Site.{Site}
use Rattle.spatial.specs.site.Site.{side_of, depth_of}
use Rattle.stack.specs.declared.candidate.Candidate.{Candidate}
use Rattle.stack.specs.Stack.{State, nothing, heavier, joined, raised}
use Rattle.stack.proofs.Counts.{add-length}
use Rattle.spatial.specs.declared.neighbours.read.Neighbour.{Neighbour}
use Rattle.spatial.specs.declared.neighbours.read.NeighbourRead.{NeighbourRead}
use Rattle.spatial.specs.declared.neighbours.read.NeighbourRead.TheVariants as read_as
use Rattle.spatial.specs.declared.neighbours.want.Want.{Want}
use Rattle.spatial.specs.neighbours.Want.{offer_of}
use Rattle.spatial.specs.neighbours.Neighbour.{along_of, across_of, line_at}
use Rattle.spatial.specs.declared.scan.Span.{Span}
use Rattle.spatial.specs.declared.scan.Next.{Next}
use Rattle.spatial.specs.declared.scan.Next.TheVariants as next-as
use Rattle.spatial.specs.Take.{noted, taken, spatial}
use Rattle.spatial.specs.Scan.{ScanOutcome, on_read, on_next, shorter, next_of, scan_on, weight_of, scan_from, scan_of, point_of}
use Rattle.spatial.specs.Scan as scans
use Rattle.spatial.specs.around.Lines.{row_of, near_line, far_line, near_span, far_span}
use Rattle.spatial.specs.around.Around.{Went, on, on_scan, on_went, near_of, has_right, point_where, near_all, farther, far_of, round_of, has_left, far_all}
use Rattle.spatial.specs.around.Around as around
use Rattle.spatial.proofs.around.Places.{step_fits}
use Rattle.answers.specs.Sound.{AllGe}
use Rattle.answers.proofs.Least.{ge-add, ge-heavier, add-longer}

-- n candidates or more, at most eight, and each weighs 2 or more
pub record Kept (n : ℕ) (l : List Candidate) : Type 0 where
  pub some : n ≤ length l
  pub few : length l ≤ 8
  pub heavy : AllGe 2 l

-- what has been found, where there was no refusal
abbrev pub Scanned : (List Candidate → Type 0) → ScanOutcome → Type 0
Scanned P (scans.refused n) = Unit
Scanned P (scans.found s r) = P s.cands

abbrev pub Walked : (List Candidate → Type 0) → Went → Type 0
Walked P (around.refused n) = Unit
Walked P (on s above left) = P s.cands

pub keeps-joined : (n : ℕ) (s : State) (p : MvPair) (w : ℕ) → Kept n s.cands → 2 ≤ w → Kept n (joined s p w).cands
unfolding joined
keeps-joined n s p w k h =
    record {
      some = omega (arith, k.some, add-longer s.cands p w);
      few = add-length s.cands p w k.few;
      heavy = ge-add 2 s.cands p w k.heavy h;
    }

pub keeps-raised : (s : State) → Kept 0 s.cands → Kept (length s.cands) (raised 640 s).cands
unfolding raised
keeps-raised s k =
    let e = length-map s.cands (heavier 640) in
    record { some = omega (arith, e); few = omega (arith, e, k.few); heavy = ge-heavier 2 s.cands 640 k.heavy }

keeps-taken : (n : ℕ) (down : Bool) (w mf : ℕ) (s : State) (o : Option MvPair) → Kept n s.cands → 2 ≤ w → Kept n (taken down w mf s o).cands
unfolding noted
keeps-taken n down w mf s None k h = k
keeps-taken n down w mf s (Some p) k h = keeps-joined n s p w k h

keeps-spatial : (n : ℕ) (down : Bool) (w : ℕ) (b : Block) (q : Want) (s : State) → Kept n s.cands → 2 ≤ w → Kept n (spatial down w b q s).cands
unfolding spatial
keeps-spatial n down w b q s k h = keeps-taken n down w b.mf s (offer_of b q) k h

-- a later neighbour counts for 1 unit or more
abbrev Longer : Next → Type 0
Longer (next-as.Take k len) = 1 ≤ len.0
Longer (next-as.Refused n) = Unit

longer : (down : Bool) (p : Span) → 1 ≤ p.step.0 → (r : NeighbourRead) → Longer (shorter down p r)
longer down p h (read_as.Refused n) = tt
longer down p h (read_as.Of k) = by (ltb (along_of down k) p.size.0)
  where
    by : (b : Bool) → Longer (pick b (next-as.Take k (record { 0 = max p.step.0 (along_of down k) })) (next-as.Refused 9))
    by true = omega arith
    by false = tt

weight-some : (p : Span) (across : ℕ) → 2 ≤ weight_of p across
unfolding weight_of
weight-some p across = by (eqb p.size.0 1)
  where
    by : (b : Bool) → 2 ≤ pick b 2 (max 2 (min (2 * p.rows) across))
    by true = omega arith
    by false = omega arith

-- along a line that counts in steps of 1 or more
module _ (m : ℕ) (nb : ℕ → NeighbourRead) (down : Bool) (q : Want) (p : Span) (one : 1 ≤ p.step.0) where
  on-next : (r : Next) (f : Neighbour → ℕ → ScanOutcome) → Longer r → ((k : Neighbour) (len : ℕ) → 1 ≤ len → Scanned (Kept m) (f k len))
      → Scanned (Kept m) (on_next r f)
  on-next (next-as.Take k len) f h g = g k len.0 h
  on-next (next-as.Refused n) f h g = tt

  scan-on : (n x : ℕ) (s : State) → Kept m s.cands → Scanned (Kept m) (scan_on nb down q p n x s)
  unfolding scan_on next_of
  scan-on zero x s k = k
  scan-on (suc n) x s k =
      by (ltb x p.limit.0) (next_of nb down p x) (longer down p one (nb x))
      (λ b len h. scan-on n (x + len) (spatial down (2 * len) b.block q s) (keeps-spatial m down (2 * len) b.block q s k (omega (arith, h))))
    where
      by : (t : Bool) (r : Next) → Longer r
          → ((b : Neighbour) (len : ℕ) → 1 ≤ len → Scanned (Kept m) (scan_on nb down q p n (x + len) (spatial down (2 * len) b.block q s)))
          → Scanned (Kept m) (pick t (on_next r (λ b len. scan_on nb down q p n (x + len) (spatial down (2 * len) b.block q s))) (scans.found s 1))
      by true r h g = on-next r _ h g
      by false r h g = k

  scan-from : (b : Neighbour) (s : State) → Kept m s.cands → Scanned (Kept m) (scan_from nb down q p b s)
  unfolding scan_from
  scan-from b s k =
      by (ltb (along_of down b) p.size.0) (max p.step.0 (along_of down b)) (weight_of p (across_of down b)) (omega arith)
      (weight-some p (across_of down b))
    where
      by : (t : Bool) (len w : ℕ) → 1 ≤ len → 2 ≤ w
          → Scanned (Kept m)
          (pick t (scan_on nb down q p p.limit.0 len (spatial down (2 * len) b.block q s))
          (scans.found (spatial down (max p.step.0 p.size.0 * w) b.block q s) (w / 2)))
      by true len w i h = scan-on p.limit.0 len (spatial down (2 * len) b.block q s) (keeps-spatial m down (2 * len) b.block q s k (omega arith))
      by false len w i h =
          let e : 1 ≤ max p.step.0 p.size.0 = omega arith in
          let g : 1 * 2 ≤ max p.step.0 p.size.0 * w = mul-le-mul e h in
          keeps-spatial m down (max p.step.0 p.size.0 * w) b.block q s k (omega (arith, g))

  scan-of : (s : State) → Kept m s.cands → Scanned (Kept m) (scan_of nb down q p s)
  unfolding scan_of
  scan-of s k = by (nb 0)
    where
      by : (r : NeighbourRead) → Scanned (Kept m) (on_read r (λ b. scan_from nb down q p b s))
      by (read_as.Of b) = scan-from b s k
      by (read_as.Refused n) = tt

point-of : (m : ℕ) (r : NeighbourRead) (q : Want) (s : State) → Kept m s.cands → Scanned (Kept m) (point_of r q s)
unfolding point_of
point-of m (read_as.Of b) q s k = keeps-spatial m false 4 b.block q s k (omega arith)
point-of m (read_as.Refused n) q s k = tt

-- one scan after the other
pub on-scan : (P Q : List Candidate → Type 0) (o : ScanOutcome) (f : State → ℕ → Went) → Scanned P o
    → ((s : State) (r : ℕ) → P s.cands → Walked Q (f s r)) → Walked Q (on_scan o f)
on-scan P Q (scans.refused n) f k g = tt
on-scan P Q (scans.found s r) f k g = g s r k

on-went : (P Q : List Candidate → Type 0) (w : Went) (f : State → ℕ → ℕ → Went) → Walked P w
    → ((s : State) (above left : ℕ) → P s.cands → Walked Q (f s above left)) → Walked Q (on_went w f)
on-went P Q (around.refused n) f k g = tt
on-went P Q (on s above left) f k g = g s above left k

-- around a block
module _ (m : ℕ) (read : ℕ → ℕ → NeighbourRead) (b : Site) (q : Want) where
  near_of_lem : (down : Bool) (s : State) → Kept m s.cands → Scanned (Kept m) (near_of read b down q s)
  unfolding near_of near_span
  near_of_lem down s k = by (eqb (depth_of down b) 0)
    where
      by : (t : Bool) → Scanned (Kept m) (pick t (scans.found s 0) (scan_of (line_at read (near_line down b)) down q (near_span down b) s))
      by true = k
      by false = scan-of m (line_at read (near_line down b)) down q (near_span down b) (step_fits (side_of down b) 1 (omega arith) (omega arith)).0 s k

  point-where : (here : Bool) (col : ℕ) (s : State) → Kept m s.cands → Scanned (Kept m) (point_where here read b col q s)
  unfolding point_where
  point-where true col s k = point-of m (read (row_of b + 4) col) q s k
  point-where false col s k = k

  far-of : (down : Bool) (n reach : ℕ) (s : State) → Kept m s.cands → Scanned (Kept m) (far_of read b down n reach q s)
  unfolding far_of far_span
  far-of down n reach s k =
      by (leb n reach) (ltb (depth_of down b) n) (scan_of (line_at read (far_line down b n)) down q (far_span down b n) s)
      (scan-of m (line_at read (far_line down b n)) down q (far_span down b n) (step_fits (side_of down b) 2 (omega arith) (omega arith)).0 s k)
    where
      far : (o : ScanOutcome) → Scanned (Kept m) o → Scanned (Kept m) (farther reach o)
      far (scans.refused i) g = tt
      far (scans.found u r) g = g

      by : (t u : Bool) (o : ScanOutcome) → Scanned (Kept m) o → Scanned (Kept m) (pick t (scans.found s reach) (pick u (scans.found s reach) (farther reach o)))
      by true u o g = k
      by false true o g = k
      by false false o g = far o g

  round-of : (n : ℕ) (w : Went) → Walked (Kept m) w → Walked (Kept m) (round_of read b n q w)
  unfolding round_of
  round-of n w k =
      on-went (Kept m) (Kept m) w _ k (λ s above left h.
      on-scan (Kept m) (Kept m) (far_of read b false n above q s) _ (far-of false n above s h) (λ t r i.
      on-scan (Kept m) (Kept m) (far_of read b true n left q t) _ (far-of true n left t i) (λ u c j. j)))

  pub far-all : (above left : ℕ) (s : State) → Kept m s.cands → Walked (Kept m) (far_all read b above left q s)
  unfolding far_all
  far-all above left s k =
      round-of 3 _
      (round-of 2 _
      (on-scan (Kept m) (Kept m) (point_where (has_left b) read b (b.x.0 - 1) q s) _ (point-where (has_left b) (b.x.0 - 1) s k) (λ t r h. h)))

-- the near neighbours begin with nothing
from_nothing : Kept 0 nothing.cands
unfolding nothing
from_nothing = record { some = omega arith; few = omega arith; heavy = tt }

module _ (read : ℕ → ℕ → NeighbourRead) (b : Site) (decoded : Bool) (q : Want) where
  abbrev right : State → ScanOutcome
  right s = point_where (has_right b decoded) read b (b.x.0 + b.w.0) q s

  pub near-all : Walked (Kept 0) (near_all read b decoded q)
  unfolding near_all
  near-all =
      on-scan (Kept 0) (Kept 0) (near_of read b false q nothing) _ (near_of_lem 0 read b q false nothing from_nothing) (λ s above h.
      on-scan (Kept 0) (Kept 0) (near_of read b true q s) _ (near_of_lem 0 read b q true s h) (λ t left i.
      on-scan (Kept 0) (Kept 0) (right t) _ (point-where 0 read b q (has_right b decoded) (b.x.0 + b.w.0) t i) (λ u r j. j)))
