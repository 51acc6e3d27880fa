-- Two ways to read that agree on a block's places give the same scans (7.10.2.2 to 7.10.2.4) and the same extra search (7.10.2.12).
-- Assumes nothing.
use mathlib.Core.Path.{◌≡◌, refl, sym}
use mathlib.Core.Bool.{Bool, true, false, ◌&&◌, not, true≢false}
use mathlib.Core.List.{List}
use Prim.Native.Nat.{ℕ, zero, suc, ◌+◌, ◌-◌, ◌*◌, ◌/◌, ◌≤◌, ◌<◌, max}
use native.Mathlib.Omega.{arith}
use lib.Dec.{eqb, ltb, leb}
use lib.ListN.{length}
use borrow.Author.Tests.{ltb-true, ltb-false, eqb-false}
use Rattle.ground.specs.Pick.{pick}
use Rattle.ground.proofs.Picks.{both}
use Rattle.cells.specs.declared.cell.Ref.{Ref}
use Rattle.cells.specs.Block.{MvPair}
use Rattle.cells.specs.Block.{RefPair}
use Rattle.spatial.specs.declared.site.block.Site.{Site}
use Rattle.spatial.specs.site.Site.{limit_of, depth_of}
use Rattle.spatial.specs.Code.Site.{Placed}
use Rattle.spatial.proofs.site.Sides.{limit-some}
use Rattle.stack.specs.Stack.{State, nothing}
use Rattle.stack.specs.Answered as answered
use Rattle.spatial.specs.declared.neighbours.read.Neighbour.{Neighbour}
use Rattle.spatial.specs.declared.neighbours.read.NeighbourRead.{NeighbourRead}
use Rattle.spatial.specs.declared.neighbours.want.Want.{Want}
use Rattle.spatial.specs.neighbours.Neighbour.{along_of, across_of, line_at}
use Rattle.spatial.specs.declared.scan.Span.{Span}
use Rattle.spatial.specs.Take.{spatial}
use Rattle.spatial.specs.Scan.{ScanOutcome, found, on_read, on_next, shorter, next_of, scan_on, weight_of, scan_from, scan_of, point_of}
use Rattle.spatial.specs.around.Lines.{row_of, near_line, far_line, near_span, far_span}
use Rattle.spatial.specs.around.Around.{Went, on, on_scan, on_went, near_of, has_right, point_where, near_all, farther, far_of, round_of, has_left, far_all}
use Rattle.cells.specs.Cell.{is_ref}
use Rattle.search.specs.extra.Lists.{extended_by}
use Rattle.search.specs.extra.Pool.{Both, gathered_by}
use Rattle.search.specs.extra.Pool as pools
use Rattle.search.specs.extra.Walk.{Gathering, single_on, compound_on, on_gathering, on_read₂}
use Rattle.search.specs.extra.Walk as walks
use Rattle.search.specs.Extend.{extra_limit, single_where, single_extra, compound_where, completing, compound_extra, extra_of}
use Rattle.answers.specs.Reads.{Place, touching, beyond, above_right, above_left, SamePlaces}

-- a scan reads below its span's limit
module _ (nb nb' : ℕ → NeighbourRead) (down : Bool) (q : Want) (p : Span) (some : 1 ≤ p.limit.0) (same : (i : ℕ) → i < p.limit.0 → nb i ≡ nb' i) where
  scan-on : (n x : ℕ) (s : State) → scan_on nb down q p n x s ≡ scan_on nb' down q p n x s
  unfolding scan_on next_of
  scan-on zero x s = refl
  scan-on (suc n) x s = by (ltb x p.limit.0) refl (λ k len. scan-on n (x + len) (spatial down (2 * len) k.block q s))
    where
      rest : (ℕ → NeighbourRead) → Neighbour → ℕ → ScanOutcome
      rest f k len = scan_on f down q p n (x + len) (spatial down (2 * len) k.block q s)

      by : (t : Bool) → ltb x p.limit.0 ≡ t → ((k : Neighbour) (len : ℕ) → rest nb k len ≡ rest nb' k len)
          → pick t (on_next (shorter down p (nb x)) (rest nb)) (found s 1) ≡ pick t (on_next (shorter down p (nb' x)) (rest nb')) (found s 1)
      by true h g = λ i. on_next (shorter down p (same x (ltb-true x p.limit.0 h) i)) (λ k len. g k len i)
      by false h g = refl

  scan-from : (k : Neighbour) (s : State) → scan_from nb down q p k s ≡ scan_from nb' down q p k s
  unfolding scan_from
  scan-from k s = λ i.
      pick (ltb (along_of down k) p.size.0)
      (scan-on p.limit.0 (max p.step.0 (along_of down k)) (spatial down (2 * max p.step.0 (along_of down k)) k.block q s) i)
      (found (spatial down (max p.step.0 p.size.0 * weight_of p (across_of down k)) k.block q s) (weight_of p (across_of down k) / 2))

  scan-of : (s : State) → scan_of nb down q p s ≡ scan_of nb' down q p s
  unfolding scan_of
  scan-of s = λ i. on_read (same 0 some i) (λ k. scan-from k s i)

module _ (read read' : ℕ → ℕ → NeighbourRead) (b : Site) (placed : Placed b) (same : SamePlaces b read read') where
  near-line : (down : Bool) (i : ℕ) → (depth_of down b ≡ 0 → ⊥) → i < limit_of down b → line_at read (near_line down b) i ≡ line_at read' (near_line down b) i
  unfolding line_at
  near-line down i d h = same _ _ (touching down i (omega arith) h)

  far-line : (down : Bool) (n i : ℕ) → 2 ≤ n → n ≤ 3 → n ≤ depth_of down b → i < limit_of down b
      → line_at read (far_line down b n) i ≡ line_at read' (far_line down b n) i
  unfolding line_at
  far-line down n i l m d h = same _ _ (beyond down n i l m d h)

  module _ (q : Want) where
    near_of_lem : (down : Bool) (s : State) → near_of read b down q s ≡ near_of read' b down q s
    unfolding near_of near_span
    near_of_lem down s = by (eqb (depth_of down b) 0) refl
      where
        by : (t : Bool) → eqb (depth_of down b) 0 ≡ t
            → pick t (found s 0) (scan_of (line_at read (near_line down b)) down q (near_span down b) s)
            ≡ pick t (found s 0) (scan_of (line_at read' (near_line down b)) down q (near_span down b) s)
        by true h = refl
        by false h =
            scan-of (line_at read (near_line down b)) (line_at read' (near_line down b)) down q (near_span down b) (limit-some down b placed)
            (λ i l. near-line down i (eqb-false (depth_of down b) 0 h) l) s

    point-where : (here : Bool) (col : ℕ) (s : State) → (here ≡ true → Place b (row_of b + 4) col)
        → point_where here read b col q s ≡ point_where here read' b col q s
    unfolding point_where
    point-where true col s h = λ i. point_of (same (row_of b + 4) col (h refl) i) q s
    point-where false col s h = refl

    far-of : (down : Bool) (n reach : ℕ) (s : State) → 2 ≤ n → n ≤ 3 → far_of read b down n reach q s ≡ far_of read' b down n reach q s
    unfolding far_of far_span
    far-of down n reach s l m = by (leb n reach) (ltb (depth_of down b) n) refl
      where
        by : (t u : Bool) → ltb (depth_of down b) n ≡ u
            → pick t (found s reach) (pick u (found s reach) (farther reach (scan_of (line_at read (far_line down b n)) down q (far_span down b n) s)))
            ≡ pick t (found s reach) (pick u (found s reach) (farther reach (scan_of (line_at read' (far_line down b n)) down q (far_span down b n) s)))
        by true u h = refl
        by false true h = refl
        by false false h = λ i.
            farther reach
            (scan-of (line_at read (far_line down b n)) (line_at read' (far_line down b n)) down q (far_span down b n) (limit-some down b placed)
            (λ k j. far-line down n k l m (ltb-false (depth_of down b) n h) j) s i)

    -- the point above right is one of the places, decoded or not
    may-right : (decoded : Bool) → has_right b decoded ≡ true → Place b (row_of b + 4) (b.x.0 + b.w.0)
    unfolding has_right
    may-right true h = above_right h
    may-right false h = absurd (true≢false (sym h))

    pub near-all : (decoded : Bool) → near_all read b decoded q ≡ near_all read' b decoded q
    unfolding near_all
    near-all decoded = λ i.
        on_scan (near_of_lem false nothing i) (λ s above.
        on_scan (near_of_lem true s i) (λ t left.
        on_scan (point-where (has_right b decoded) (b.x.0 + b.w.0) t (may-right decoded) i) (λ u r. on u above left)))

    round-of : (n : ℕ) (w w' : Went) → 2 ≤ n → n ≤ 3 → w ≡ w' → round_of read b n q w ≡ round_of read' b n q w'
    unfolding round_of
    round-of n w w' l m e = λ i.
        on_went (e i) (λ s above left.
        on_scan (far-of false n above s l m i) (λ t r.
        on_scan (far-of true n left t l m i) (λ u c. on u r c)))

    pub far-all : (above left : ℕ) (s : State) → far_all read b above left q s ≡ far_all read' b above left q s
    unfolding far_all
    far-all above left s =
        round-of 3 _ _ (omega arith) (omega arith)
        (round-of 2 _ _ (omega arith) (omega arith)
        (λ i. on_scan (point-where (has_left b) (b.x.0 - 1) s above_left i) (λ t r. on t above left)))

  -- the extra search stays below both limits
  below_both : (down : Bool) (x : ℕ) → x < extra_limit b → x < limit_of down b
  unfolding extra_limit
  below_both true x h = omega arith
  below_both false x h = omega arith

  module _ (down : Bool) (some : depth_of down b ≡ 0 → ⊥) (biases : List ℕ) where
    single-on : (r : Ref) (n x : ℕ) (s : State)
        → single_on (line_at read (near_line down b)) down (extra_limit b) biases r n x s ≡ single_on (line_at read' (near_line down b)) down (extra_limit b) biases r n x s
    unfolding single_on
    single-on r zero x s = refl
    single-on r (suc n) x s =
        by (ltb x (extra_limit b) && ltb (length s.cands) 2) refl (λ k. single-on r n (x + along_of down k) (extended_by biases r k.block s))
      where
        rest : (ℕ → ℕ → NeighbourRead) → Neighbour → answered.Outcome
        rest f k = single_on (line_at f (near_line down b)) down (extra_limit b) biases r n (x + along_of down k) (extended_by biases r k.block s)

        by : (t : Bool) → (ltb x (extra_limit b) && ltb (length s.cands) 2) ≡ t → ((k : Neighbour) → rest read k ≡ rest read' k)
            → pick t (walks.on_read (line_at read (near_line down b) x) (rest read)) (answered.found s)
            ≡ pick t (walks.on_read (line_at read' (near_line down b) x) (rest read')) (answered.found s)
        by true h g =
            let l = ltb-true x (extra_limit b) (both (ltb x (extra_limit b)) (ltb (length s.cands) 2) h).0 in
            λ i. walks.on_read (near-line down x some (below_both down x l) i) (λ k. g k i)
        by false h g = refl

    compound-on : (refs : RefPair) (n x : ℕ) (p : Both)
        → compound_on (line_at read (near_line down b)) down (extra_limit b) biases refs n x p ≡ compound_on (line_at read' (near_line down b)) down (extra_limit b) biases refs n x p
    unfolding compound_on
    compound-on refs zero x p = refl
    compound-on refs (suc n) x p =
        by (ltb x (extra_limit b)) refl (λ k. compound-on refs n (x + along_of down k) (gathered_by biases refs k.block p))
      where
        rest : (ℕ → ℕ → NeighbourRead) → Neighbour → Gathering
        rest f k = compound_on (line_at f (near_line down b)) down (extra_limit b) biases refs n (x + along_of down k) (gathered_by biases refs k.block p)

        by : (t : Bool) → ltb x (extra_limit b) ≡ t → ((k : Neighbour) → rest read k ≡ rest read' k)
            → pick t (on_read₂ (line_at read (near_line down b) x) (rest read)) (walks.gathered p)
            ≡ pick t (on_read₂ (line_at read' (near_line down b) x) (rest read')) (walks.gathered p)
        by true h g = λ i. on_read₂ (near-line down x some (below_both down x (ltb-true x (extra_limit b) h)) i) (λ k. g k i)
        by false h g = refl

  module _ (biases : List ℕ) where
    single-where : (down : Bool) (r : Ref) (s : State) → single_where read b down biases r s ≡ single_where read' b down biases r s
    unfolding single_where
    single-where down r s = by (eqb (depth_of down b) 0) refl
      where
        walk : (ℕ → ℕ → NeighbourRead) → answered.Outcome
        walk f = single_on (line_at f (near_line down b)) down (extra_limit b) biases r (extra_limit b) 0 s

        by : (t : Bool) → eqb (depth_of down b) 0 ≡ t → pick t (answered.found s) (walk read) ≡ pick t (answered.found s) (walk read')
        by true h = refl
        by false h = single-on down (eqb-false (depth_of down b) 0 h) biases r (extra_limit b) 0 s

    compound-where : (down : Bool) (refs : RefPair) (p : Both) → compound_where read b down biases refs p ≡ compound_where read' b down biases refs p
    unfolding compound_where
    compound-where down refs p = by (eqb (depth_of down b) 0) refl
      where
        walk : (ℕ → ℕ → NeighbourRead) → Gathering
        walk f = compound_on (line_at f (near_line down b)) down (extra_limit b) biases refs (extra_limit b) 0 p

        by : (t : Bool) → eqb (depth_of down b) 0 ≡ t → pick t (walks.gathered p) (walk read) ≡ pick t (walks.gathered p) (walk read')
        by true h = refl
        by false h = compound-on down (eqb-false (depth_of down b) 0 h) biases refs (extra_limit b) 0 p

    pub extra-of : (refs : RefPair) (g : MvPair) (s : State) → extra_of read b biases refs g s ≡ extra_of read' b biases refs g s
    unfolding extra_of compound_extra single_extra
    extra-of refs g s = λ i.
        pick (leb 2 (length s.cands)) (answered.found s)
        (pick (not (is_ref refs.first)) (answered.found s)
        (pick (is_ref refs.second)
        (completing g s (on_gathering (compound-where false refs pools.nothing i) (λ p. compound-where true refs p i)))
        (answered.on_found (single-where false refs.first s i) (λ u. single-where true refs.first u i))))
