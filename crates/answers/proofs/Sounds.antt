-- Every answer is sound.
-- Assumes nothing.
use mathlib.Core.Path.{◌≡◌, refl, subst}
use mathlib.Core.Bool.{Bool, true, false}
use mathlib.Core.List.{List}
use Prim.Native.Nat.{ℕ}
use native.Mathlib.Omega.{arith}
use lib.Dec.{eqb}
use lib.ListN.{length, length-map}
use Rattle.ground.specs.Pick.{pick}
use Rattle.frame.specs.declared.record.Frame.{Frame}
use Rattle.frame.specs.extent.Sizes.{records, projected_cells}
use Rattle.rows.specs.Setup.{Tile}
use Rattle.spatial.specs.declared.neighbours.read.NeighbourRead.{NeighbourRead}
use Rattle.spatial.specs.neighbours.Neighbour.{read_at}
use Rattle.stack.specs.declared.candidate.Candidate.{Candidate}
use Rattle.stack.specs.declared.clamp.Reach.{Reach}
use Rattle.stack.specs.Stack.{State, raised}
use Rattle.stack.specs.Sort.{ordered}
use Rattle.stack.specs.Clamp.{clamped_one, clamped}
use Rattle.stack.specs.Answered as answered
use Rattle.stack.proofs.Clips.{clamped-inside}
use Rattle.temporal.specs.declared.aim.CellRead.{CellRead}
use Rattle.temporal.specs.Temporal.{cell_read}
use Rattle.spatial.specs.around.Around.{Went, near_all, far_all}
use Rattle.spatial.specs.around.Around as around
use Rattle.search.specs.declared.front.ask.Ask.{Ask}
use Rattle.search.specs.front.Ask.{find_front, want_of, global_of, site_of}
use Rattle.search.specs.front.Context.{matches_of}
use Rattle.search.specs.Parts.{aim_of, field_of, temporal_where, zero_where}
use Rattle.search.specs.Extend.{biases_of, extra_of}
use Rattle.search.specs.Find.{Finding, SearchOutcome, refused, got, after_went, after_found, reach_of, concluded, timed, gone_on, search_of, find_of}
use Rattle.answers.specs.Sound.{count_in, near_count, Sound}
use Rattle.answers.proofs.Least.{ge-clamped}
use Rattle.answers.proofs.Kept.{Kept, Walked, keeps-raised, far-all, near-all}
use Rattle.answers.proofs.Swept.{Reached, temporal-where}
use Rattle.answers.proofs.Parts.{parts-clamped, parts-ordered, kept-ordered}
use Rattle.answers.proofs.Extras.{Laid, extra-of}

-- what was got, where there was no refusal
abbrev Gotten : (Finding → Type 0) → SearchOutcome → Type 0
Gotten P (refused n) = Unit
Gotten P (got x) = P x

after-found : (P : List Candidate → Type 0) (Q : Finding → Type 0) (o : answered.Outcome) (f : State → SearchOutcome) → Reached P o
    → ((s : State) → P s.cands → Gotten Q (f s)) → Gotten Q (after_found o f)
after-found P Q (answered.refused n) f k g = tt
after-found P Q (answered.found s) f k g = g s k

after-went : (P : List Candidate → Type 0) (Q : Finding → Type 0) (w : Went) (f : State → ℕ → ℕ → SearchOutcome) → Walked P w
    → ((s : State) (above left : ℕ) → P s.cands → Gotten Q (f s above left)) → Gotten Q (after_went w f)
after-went P Q (around.refused n) f k g = tt
after-went P Q (around.on s above left) f k g = g s above left k

sound-clamped : (n : ℕ) (r : Reach) (s : State) (x : Finding) → x.cands ≡ (clamped r s).cands → Laid n s.cands → Sound n r x
unfolding clamped
sound-clamped n r s x e h =
    record {
      few = rw e (omega (arith, length-map s.cands (clamped_one r), h.few));
      heavy = rw e (ge-clamped 2 r s.cands h.heavy);
      parts = rw e (parts-clamped r n s.cands h.parts);
      inside = rw e (clamped-inside r s);
    }

module _ (read : ℕ → ℕ → NeighbourRead) (cells : ℕ → CellRead) (f : Frame) (t : Tile) (a : Ask) where
  abbrev reach : Reach
  reach = reach_of f.sizes (site_of t a)

  -- from the sort on, from the near neighbours on, and the whole
  conclusion : (still n matched : ℕ) (newmv : Bool) (all : State) → Kept n all.cands
      → Gotten (Sound n reach) (concluded read f t a still n matched newmv all)
  unfolding concluded
  conclusion still n matched newmv all k =
      after-found (Laid n) (Sound n reach) (extra_of read (site_of t a) (biases_of f) a.refs (global_of a) (ordered n all)) _
      (extra-of n read (site_of t a) (biases_of f) a.refs (global_of a) (ordered n all) (kept-ordered n all k) (parts-ordered n all k))
      (λ s h. sound-clamped n reach s _ refl h)

  onward : (s : State) (above left : ℕ) → Kept 0 s.cands → Gotten (Sound (length s.cands) reach) (gone_on read cells f t a s above left)
  unfolding gone_on
  onward s above left k =
      let n = length s.cands in
      let field = field_of f.sizes t (site_of t a) in
      let still = zero_where (timed f) cells (aim_of f a) field f.temporal in
      after-found (Kept n) (Sound n reach) (temporal_where (timed f) cells (aim_of f a) field (site_of t a) (raised 640 s)) _
      (temporal-where n cells (aim_of f a) (timed f) field (site_of t a) (raised 640 s) (keeps-raised s k)) (λ u h.
      after-went (Kept n) (Sound n reach) (far_all read (site_of t a) above left (want_of a) u) _ (far-all n read (site_of t a) (want_of a) above left u h) (λ v r c i.
      conclusion still n (matches_of s) s.newmv v i))

  searched : Gotten (Sound (near_count read t a) reach) (search_of read cells f t a)
  unfolding search_of near_count
  searched = by (near_all read (site_of t a) (eqb a.decoded 1) (want_of a)) (near-all read (site_of t a) (eqb a.decoded 1) (want_of a))
    where
      by : (w : Went) → Walked (Kept 0) w → Gotten (Sound (count_in w) reach) (after_went w (gone_on read cells f t a))
      by (around.refused n) k = tt
      by (around.on s above left) k = onward s above left k

  pub sound : {x : Finding} → search_of read cells f t a ≡ got x → Sound (near_count read t a) reach x
  sound e = subst (Gotten (Sound (near_count read t a) reach)) e searched

-- the same over lent bytes
pub find-sound : (f : Frame) (t : Tile) (recs proj : List ℕ) (a : Ask) {x : Finding} → find_of f t recs proj a ≡ got x
    → Sound (near_count (read_at t.rows recs (records f.sizes)) t a) (reach_of f.sizes (site_of t a)) x
unfolding find_of
find-sound f t recs proj a {x} e = subst (Gotten P) e (by (eqb front 0))
  where
    read : ℕ → ℕ → NeighbourRead
    read = read_at t.rows recs (records f.sizes)

    cells : ℕ → CellRead
    cells = cell_read proj (projected_cells f.sizes)

    front : ℕ
    front = find_front f t a (length recs) (length proj)

    P : Finding → Type 0
    P = Sound (near_count read t a) (reach_of f.sizes (site_of t a))

    by : (b : Bool) → Gotten P (pick b (search_of read cells f t a) (refused front))
    by true = searched read cells f t a
    by false = tt
