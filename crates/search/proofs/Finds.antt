-- One part of a search after the other: each goes on from what the one before it found, and the first refusal is the answer.
-- Assumes nothing.
use mathlib.Core.Path.{◌≡◌, refl, sym, ap, ◌∙◌, subst}
use mathlib.Core.Bool.{Bool, true}
use mathlib.Core.List.{List, [], ◌∷◌}
use Prim.Native.Nat.{ℕ, zero, suc, ◌+◌, ◌≤◌, min}
use native.Mathlib.Nat.{lt_irrefl}
use native.Mathlib.Omega.{arith}
use lib.Dec.{eqb}
use lib.ListN.{length, take, drop}
use borrow.Author.Tests.{eq-eqb, ne_eqb}
use Rattle.ground.proofs.Diffs.{Which, more, less, which}
use Rattle.ground.proofs.Picks.{pick_true, pick-false}
use Rattle.vector.specs.declared.mv.Mv.{Mv}
use Rattle.cells.specs.Block.{MvPair}
use Rattle.frame.specs.declared.extent.sizes.Sizes.{Sizes}
use Rattle.frame.specs.declared.record.Frame.{Frame}
use Rattle.frame.specs.Record.{well_frame}
use Rattle.frame.specs.extent.Sizes.{most_units, well_sizes, records, projected_cells}
use Rattle.frame.proofs.Records.{frame-sizes}
use Rattle.frame.proofs.extent.Sizing.{fits, eighths-most}
use Rattle.rows.specs.Setup.{Tile}
use Rattle.layout.specs.FrameBytes.{sizes_at, frame_at}
use Rattle.layout.specs.TileBytes.{tile_at}
use Rattle.spatial.specs.declared.site.block.Site.{Site}
use Rattle.spatial.specs.Code.Site.{Placed}
use Rattle.spatial.specs.declared.neighbours.read.NeighbourRead.{NeighbourRead}
use Rattle.spatial.specs.declared.neighbours.want.Want.{Want}
use Rattle.spatial.specs.neighbours.Neighbour.{read_at}
use Rattle.stack.specs.declared.candidate.Candidate.{Candidate}
use Rattle.stack.specs.declared.clamp.Reach.{Reach}
use Rattle.stack.specs.Stack.{State, raised}
use Rattle.stack.specs.Code.Found.{Found, live, view}
use Rattle.stack.specs.Code.Numbers.{view_at, count_at, Held}
use Rattle.stack.proofs.Adds.{how-many}
use Rattle.stack.specs.Sort.{ordered, sorted}
use Rattle.stack.specs.Clamp.{clamped}
use Rattle.stack.specs.Answered as answered
use Rattle.temporal.specs.declared.aim.Aim.{Aim}
use Rattle.temporal.specs.declared.aim.CellRead.{CellRead}
use Rattle.temporal.specs.declared.sweep.Field.{Field}
use Rattle.temporal.specs.Temporal.{cell_read}
use Rattle.temporal.specs.Code.Sweep.{Light}
use Rattle.search.specs.declared.front.ask.Ask.{Ask}
use Rattle.search.specs.front.Ask.{find_front, want_of, global_of, site_of}
use Rattle.search.specs.front.Context.{matches_of, context_of}
use Rattle.cells.specs.Cell.{is_ref}
use Rattle.spatial.specs.around.Around as around
use Rattle.spatial.specs.Code.Around as code
use Rattle.spatial.specs.around.Around.{near_all, far_all}
use Rattle.search.proofs.front.Fronts.{Passed, site-placed, rows_inside, columns-inside}
use Rattle.search.specs.declared.find.Findings.{Findings}
use Rattle.search.specs.declared.find.Nearest.{Nearest}
use Rattle.search.specs.Parts.{aim_of, field_of, temporal_where, zero_where}
use Rattle.search.specs.Extend.{biases_of, extra_of}
use Rattle.search.specs.Find.{refused, got, reach_of, concluded, timed, gone_on, search_of, find_of}
use Rattle.search.specs.Code.Find.{finding, Past}

-- what an answer makes of a search
module _ (r : Findings) (s : Found) where
  pub is-refused : {n : ℕ} → r.answer ≡ n → (n ≡ 0 → ⊥) → finding r s ≡ refused n
  unfolding finding
  is-refused {n} e h = rw (e, ne_eqb n 0 h)

  pub is-got : r.answer ≡ 0 → finding r s ≡ got (record { context = r.context; cands = live s; fill = r.fill })
  unfolding finding
  is-got e = rw (eq-eqb r.answer 0 e)

-- a part of a list that is asked past its end is the whole list
take_past : {A : Type 0} (n : ℕ) (l : List A) → length l ≤ n → take n l ≡ l
take_past zero [] h = refl
take_past zero (x ∷ l) h = absurd (lt_irrefl 0 (omega arith))
take_past (suc n) [] h = refl
take_past (suc n) (x ∷ l) h = ap (λ k. x ∷ k) (take_past n l (omega arith))

drop_past : {A : Type 0} (n : ℕ) (l : List A) → length l ≤ n → drop n l ≡ []
drop_past zero [] h = refl
drop_past zero (x ∷ l) h = absurd (lt_irrefl 0 (omega arith))
drop_past (suc n) [] h = refl
drop_past (suc n) (x ∷ l) h = drop_past n l (omega arith)

take_min : {A : Type 0} (n : ℕ) (l : List A) → take (min n (length l)) l ≡ take n l
take_min n l = by (which n (length l))
  where
    by : Which n (length l) → take (min n (length l)) l ≡ take n l
    by (less h) = let e : min n (length l) ≡ n = omega arith in ap (λ (k : ℕ). take k l) e
    by (more h) = let e : min n (length l) ≡ length l = omega arith in ap (λ (k : ℕ). take k l) e ∙ take_past (length l) l (omega arith) ∙ sym (take_past n l h)

drop_min : {A : Type 0} (n : ℕ) (l : List A) → drop (min n (length l)) l ≡ drop n l
drop_min n l = by (which n (length l))
  where
    by : Which n (length l) → drop (min n (length l)) l ≡ drop n l
    by (less h) = let e : min n (length l) ≡ n = omega arith in ap (λ (k : ℕ). drop k l) e
    by (more h) = let e : min n (length l) ≡ length l = omega arith in ap (λ (k : ℕ). drop k l) e ∙ drop_past (length l) l (omega arith) ∙ sym (drop_past n l h)

pub ordered-min : (n : ℕ) (s : State) → ordered (min n (length s.cands)) s ≡ ordered n s
unfolding ordered
ordered-min n s = rw (take_min n s.cands, drop_min n s.cands)

-- from the sorted stack on
module _ (read : ℕ → ℕ → NeighbourRead) (f : Frame) (t : Tile) (a : Ask) (still count matched : ℕ) (newmv : Bool) (all : State) where
  pub concludes-not : {n : ℕ} → extra_of read (site_of t a) (biases_of f) a.refs (global_of a) (ordered count all) ≡ answered.refused n
      → concluded read f t a still count matched newmv all ≡ refused n
  unfolding concluded
  concludes-not e = rw e

  concludes : {s : State} → extra_of read (site_of t a) (biases_of f) a.refs (global_of a) (ordered count all) ≡ answered.found s
      → concluded read f t a still count matched newmv all
      ≡ got (record { context = context_of (is_ref a.refs.second) matched (matches_of all) newmv still; cands = (clamped (reach_of f.sizes (site_of t a)) s).cands; fill = (global_of a).first })
  unfolding concluded
  concludes e = rw e

module _ (read : ℕ → ℕ → NeighbourRead) (cells : ℕ → CellRead) (f : Frame) (t : Tile) (a : Ask) where
  -- from the near neighbours on
  module _ (s : State) (above left : ℕ) where
    pub goes-not : {n : ℕ} → temporal_where (timed f) cells (aim_of f a) (field_of f.sizes t (site_of t a)) (site_of t a) (raised 640 s) ≡ answered.refused n
        → gone_on read cells f t a s above left ≡ refused n
    unfolding gone_on
    goes-not e = rw e

    module _ {u : State} (e : temporal_where (timed f) cells (aim_of f a) (field_of f.sizes t (site_of t a)) (site_of t a) (raised 640 s) ≡ answered.found u) where
      pub goes-no-farther : {n : ℕ} → far_all read (site_of t a) above left (want_of a) u ≡ around.refused n → gone_on read cells f t a s above left ≡ refused n
      unfolding gone_on
      goes-no-farther g = rw (e, g)

      pub goes_on : {v : State} {r c k : ℕ} → k ≡ zero_where (timed f) cells (aim_of f a) (field_of f.sizes t (site_of t a)) f.temporal
          → far_all read (site_of t a) above left (want_of a) u ≡ around.on v r c → concluded read f t a k (length s.cands) (matches_of s) s.newmv v ≡ gone_on read cells f t a s above left
      unfolding gone_on
      goes_on h g = rw (h, e, g)

  -- the whole
  pub searches-not : {n : ℕ} → near_all read (site_of t a) (eqb a.decoded 1) (want_of a) ≡ around.refused n → search_of read cells f t a ≡ refused n
  unfolding search_of
  searches-not e = rw e

  pub searches : {s : State} {above left : ℕ} → near_all read (site_of t a) (eqb a.decoded 1) (want_of a) ≡ around.on s above left
      → search_of read cells f t a ≡ gone_on read cells f t a s above left
  unfolding search_of
  searches e = rw e

-- a frame's sides in units of 4
pub record Sided (f : Frame) : Type 0 where
  pub high : f.sizes.ih4.0 ≤ most_units
  pub wide : f.sizes.iw4.0 ≤ most_units

pub sided : (f : Frame) → well_frame f ≡ true → Sided f
sided f w =
    let z = fits f.sizes (frame-sizes f w) in
    record {
      high = omega (arith, z.ih4, eighths-most f.sizes.height z.limits.height.fits);
      wide = omega (arith, z.iw4, eighths-most f.sizes.width z.limits.width.fits);
    }

-- What the code has at hand once the front is passed: the frame's sizes and the block, read out of their bytes.
module _ (l tl : List ℕ) (a : Ask) {z : Sizes} {b : Site} {nf : ℕ} (ze : z ≡ sizes_at l) (be : b ≡ site_of (tile_at tl) a) (p : Past (frame_at l) (tile_at tl) a nf) where
  pub sizes-are : z ≡ (frame_at l).sizes
  unfolding frame_at
  sizes-are = ze

  pub sizes-fit : well_sizes z ≡ true
  sizes-fit = ap well_sizes sizes-are ∙ frame-sizes (frame_at l) p.well

  pub placed : Placed b
  placed = subst Placed (sym be) (site-placed (frame_at l) (tile_at tl) a p.well p.asked)

  pub as_many : {n : ℕ} → n ≡ records z → n ≡ records (frame_at l).sizes
  as_many e = e ∙ ap records sizes-are

  pub reaching : (Placed b) × (b.row.end.0 ≤ z.ih4.0) × (b.col.end.0 ≤ z.iw4.0) × (z.ih4.0 ≤ most_units) × (z.iw4.0 ≤ most_units)
  unfolding site_of
  reaching =
      let s = sided (frame_at l) p.well in
      let h = rows_inside (frame_at l) (tile_at tl) a p.well p.asked in
      let w = columns-inside (frame_at l) (tile_at tl) a p.well p.asked in
      let y = ap (λ (u : Sizes). u.ih4.0) sizes-are in
      let x = ap (λ (u : Sizes). u.iw4.0) sizes-are in
      let v = ap (λ (u : Site). u.row.end.0) be in
      let q = ap (λ (u : Site). u.col.end.0) be in
      (placed, omega (arith, h, y, v), omega (arith, w, x, q), omega (arith, s.high, y), omega (arith, s.wide, x))

pub sorts : (n : ℕ) (l : List ℕ) (sorted : Found) {m k : ℕ} → Held l → k ≡ count_at l → m ≡ min n k
    → view sorted ≡ ordered m (view_at l) → view sorted ≡ ordered n (view_at l)
sorts n l sorted h j e v =
    v ∙ ap (λ (i : ℕ). ordered i (view_at l)) (e ∙ ap (min n) (j ∙ sym (how-many l h))) ∙ ordered-min n (view_at l)

-- what `take_nearest` gives
abbrev nearest_at : List ℕ → Nearest
nearest_at l = record { count = count_at l; matched = matches_of (view_at l); newmv = (view_at l).newmv }

-- the end, from what was taken of the near neighbours
pub taken : (read : ℕ → ℕ → NeighbourRead) (f : Frame) (t : Tile) (a : Ask) (still : ℕ) (l : List ℕ) (all : State) {n : Nearest} → Held l → n ≡ nearest_at l
    → concluded read f t a still n.count n.matched n.newmv all ≡ concluded read f t a still (length (view_at l).cands) (matches_of (view_at l)) (view_at l).newmv all
taken read f t a still l all h e = rw (e, how-many l h)

-- the room that the near neighbours leave for the projection's weights, and both for those of the far ones
pub timed-light : {a b : ℕ} → b ≤ 1028 → a ≤ b + 5120 → Light 134 a
timed-light h i = record { light = omega arith }

pub far-light : {a b d : ℕ} → b ≤ 1028 → a ≤ b + 5120 → d ≤ a + 134 → code.Light d
far-light h i j = record { light = omega arith }

-- the extra search that the code asked for
pub extra-asked : (read : ℕ → ℕ → NeighbourRead) (l tl : List ℕ) (a : Ask) {b : Site} {g : MvPair} {s u : State} {o : answered.Outcome}
    → b ≡ site_of (tile_at tl) a → g ≡ global_of a → s ≡ u → o ≡ extra_of read b (biases_of (frame_at l)) a.refs g s
    → extra_of read (site_of (tile_at tl) a) (biases_of (frame_at l)) a.refs (global_of a) u ≡ o
extra-asked read l tl a be ge se e = sym (rw (be, ge, se) at e)

pub contexts : {i j : Bool} {n m k h : ℕ} (w : Bool) (still : ℕ) → i ≡ j → n ≡ k → m ≡ h → context_of i n m w still ≡ context_of j k h w still
contexts w still p q r = rw (p, q, r)

alike : {c d : ℕ} {k m : List Candidate} {v w : Mv} → c ≡ d → k ≡ m → v ≡ w
    → got (record { context = c; cands = k; fill = v }) ≡ got (record { context = d; cands = m; fill = w })
alike p q r = rw (p, q, r)

-- the end of an accepted search
pub ends : (read : ℕ → ℕ → NeighbourRead) (f : Frame) (t : Tile) (a : Ask) (still count matched : ℕ) (newmv : Bool) (all : State) (last found : Found) {c : ℕ} {v : Mv} {r : Reach}
    → extra_of read (site_of t a) (biases_of f) a.refs (global_of a) (ordered count all) ≡ answered.found (view last)
    → view found ≡ clamped r (view last) → r ≡ reach_of f.sizes (site_of t a)
    → c ≡ context_of (is_ref a.refs.second) matched (matches_of all) newmv still → v ≡ (global_of a).first
    → finding (record { answer = 0; context = c; fill = v }) found ≡ concluded read f t a still count matched newmv all
unfolding view
ends read f t a still count matched newmv all last found e h k x y =
    is-got (record { answer = 0; context = _; fill = _ }) found refl
    ∙ alike x (ap (λ (s : State). s.cands) h ∙ ap (λ (r : Reach). (clamped r (view last)).cands) k) y
    ∙ sym (concludes read f t a still count matched newmv all e)

-- the front once passed
pub past : {f : Frame} {t : Tile} {a : Ask} {nrecs nproj nf : ℕ} → Passed f t a nrecs nproj → 109 ≤ nf → Past f t a nf
past p nf = record { frame = nf; well = p.well; asked = p.asked }

-- The parts that the code asked for, as the definition has them.
module _ (l tl : List ℕ) (a : Ask) {z : Sizes} {b : Site} (ze : z ≡ sizes_at l) (be : b ≡ site_of (tile_at tl) a) where
  module _ (proj : List ℕ) {fd : Field} {m : Aim} {on : Bool} (fe : fd ≡ field_of z (tile_at tl) b) (me : m ≡ aim_of (frame_at l) a) (oe : on ≡ timed (frame_at l)) where
    pub timed-asked : (u : State) {s : State} {o : answered.Outcome} → s ≡ raised 640 u
        → o ≡ temporal_where on (cell_read proj fd.total) m fd b s
        → temporal_where (timed (frame_at l)) (cell_read proj (projected_cells (frame_at l).sizes)) (aim_of (frame_at l) a) (field_of (frame_at l).sizes (tile_at tl) (site_of (tile_at tl) a)) (site_of (tile_at tl) a) (raised 640 u) ≡ o
    unfolding frame_at field_of
    timed-asked u se e = sym (rw (me, se, fe, be, ze, oe) at e)

    pub still-asked : {k header : ℕ} → header ≡ (frame_at l).temporal → k ≡ zero_where on (cell_read proj fd.total) m fd header
        → k ≡ zero_where (timed (frame_at l)) (cell_read proj (projected_cells (frame_at l).sizes)) (aim_of (frame_at l) a) (field_of (frame_at l).sizes (tile_at tl) (site_of (tile_at tl) a)) (frame_at l).temporal
    unfolding frame_at field_of
    still-asked he e = rw (me, fe, be, ze, oe, he) at e

-- and the neighbours that it asked for
module _ (read : ℕ → ℕ → NeighbourRead) (tl : List ℕ) (a : Ask) {b : Site} {q : Want} {w : around.Went} (be : b ≡ site_of (tile_at tl) a) (qe : q ≡ want_of a) where
  pub far-asked : (above left : ℕ) (s : State) → w ≡ far_all read b above left q s → far_all read (site_of (tile_at tl) a) above left (want_of a) s ≡ w
  far-asked above left s e = sym (rw (qe, be) at e)

  pub near-asked : w ≡ near_all read b (eqb a.decoded 1) q → near_all read (site_of (tile_at tl) a) (eqb a.decoded 1) (want_of a) ≡ w
  near-asked e = sym (rw (qe, be) at e)

-- the front, and the search behind it
module _ (f : Frame) (t : Tile) (recs proj : List ℕ) (a : Ask) where
  pub fronts-not : {n : ℕ} → n ≡ find_front f t a (length recs) (length proj) → (n ≡ 0 → ⊥) → refused n ≡ find_of f t recs proj a
  unfolding find_of
  fronts-not e h = ap refused e ∙ sym (pick-false _ (ne_eqb _ 0 (λ z. h (e ∙ z))))

  pub fronts : find_front f t a (length recs) (length proj) ≡ 0
      → search_of (read_at t.rows recs (records f.sizes)) (cell_read proj (projected_cells f.sizes)) f t a ≡ find_of f t recs proj a
  unfolding find_of
  fronts e = sym (pick_true _ (eq-eqb _ 0 e))

  -- the same where the records are counted once more
  pub fronts-listed : {n : ℕ} → n ≡ records f.sizes → find_front f t a (length recs) (length proj) ≡ 0
      → search_of (read_at t.rows recs n) (cell_read proj (projected_cells f.sizes)) f t a ≡ find_of f t recs proj a
  fronts-listed i e = ap (λ k. search_of (read_at t.rows recs k) (cell_read proj (projected_cells f.sizes)) f t a) i ∙ fronts e
