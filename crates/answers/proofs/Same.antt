-- The search over lent records and the search over lent bytes give one answer. The bytes' script, taken record by record, turns the bytes of what a record held
-- into the bytes of what it holds afterwards.
-- Assumes nothing.
use mathlib.Core.Path.{◌≡◌, refl, sym, ap, ap₂, ◌∙◌}
use mathlib.Core.Bool.{Bool, true, false}
use mathlib.Core.List.{List, [], ◌∷◌, ◌++◌, append_assoc, append-nil}
use Prim.Native.Nat.{ℕ, zero, suc, ◌+◌, ◌*◌, ◌≤◌, ◌<◌}
use native.Mathlib.Nat.{zero-add}
use native.Mathlib.Decide.{dec_lt}
use native.Mathlib.Omega.{arith}
use lib.Dec.{ltb}
use lib.ListN.{length, get_or, set, drop, length-append}
use borrow.Author.Tests.{lt-ltb, le-ltb}
use Rattle.ground.specs.Pick.{pick}
use Rattle.ground.specs.Put.{put}
use Rattle.ground.specs.Little.{four_bytes}
use Rattle.ground.specs.Script.{Patch, run}
use Rattle.ground.specs.Span.{over, span}
use Rattle.ground.proofs.Scripts.{run-append}
use Rattle.ground.proofs.Spans.{split, none, nil, alike}
use Rattle.ground.proofs.Tabs.{tab-at}
use Rattle.vector.specs.declared.mv.Mv.{Mv}
use Rattle.vector.specs.Vector.{mv_bytes}
use Rattle.frame.specs.declared.record.Frame.{Frame}
use Rattle.rows.specs.Setup.{Tile}
use Rattle.layout.specs.FrameBytes.{frame_at}
use Rattle.layout.specs.TileBytes.{tile_at}
use Rattle.stack.specs.declared.candidate.Candidate.{Candidate}
use Rattle.stack.specs.Stack.{nobody}
use Rattle.cells.specs.Cell.{is_ref}
use Rattle.search.specs.declared.front.ask.Ask.{Ask}
use Rattle.search.specs.declared.candidates.plan.Listing.{Listing}
use Rattle.search.specs.declared.candidates.plan.Plan.{Plan}
use Rattle.search.specs.Find.{Finding, SearchOutcome, refused, got, find_of}
use Rattle.search.specs.candidates.Each.{map_from}
use Rattle.search.specs.candidates.Plan.{recorded, eight, plan_for, lacking, found_in, plan_of, taken, filled, slot_of}
use Rattle.search.specs.lent_bytes.Store.{candidate_patches, candidates_script, fill_patch, fills_script}
use Rattle.search.specs.lent_bytes.Whole.{stack_script, found_script}
use Rattle.search.proofs.lent_bytes.Stored.{four_same}
use Rattle.search.proofs.candidates.Eaches.{map_from-none}
use Rattle.answers.specs.Same.{candidate_bytes, bytes_of, Beside, OneAnswer}
use Rattle.answers.proofs.Sounds.{find-sound}

-- bytes laid behind the first ones
put-behind : (x : ℕ) (l : List ℕ) (i : ℕ) (bs : List ℕ) → put (x ∷ l) (suc i) bs ≡ x ∷ put l i bs
unfolding put
put-behind x l i [] = refl
put-behind x l i (b ∷ bs) = put-behind x (set l i b) (suc i) bs

put-past : (p l : List ℕ) (at k : ℕ) (bs : List ℕ) → at ≡ length p + k → put (p ++ l) at bs ≡ p ++ put l k bs
put-past [] l at k bs e = let g : at ≡ k = omega arith in ap (λ (n : ℕ). put l n bs) g
put-past (x ∷ p) l at k bs e =
    let g : at ≡ suc (length p + k) = omega arith in
    ap (λ (n : ℕ). put (x ∷ (p ++ l)) n bs) g
    ∙ put-behind x (p ++ l) (length p + k) bs
    ∙ ap (λ (m : List ℕ). x ∷ m) (put-past p l (length p + k) k bs refl)

-- ONE RECORD, behind the bytes p of those before it
module _ (i : ℕ) (p t : List ℕ) (n : length p ≡ 12 * i) where
  -- the bytes bs from its k-th on
  at-record : (k : ℕ) (l bs : List ℕ) → put (p ++ l) (12 * i + k) bs ≡ p ++ put l k bs
  at-record k l bs = put-past p l (12 * i + k) k bs (omega arith)

  first-at : (l : List ℕ) (v : Mv) → put (p ++ l) (12 * i) (mv_bytes v) ≡ p ++ put l 0 (mv_bytes v)
  first-at l v = put-past p l (12 * i) 0 (mv_bytes v) (omega arith)

  weight-at : (l : List ℕ) (c : Candidate) → put (p ++ l) (12 * i + 8) (four_bytes c.weight) ≡ p ++ put l 8 (four_bytes (recorded c).weight)
  weight-at l c = at-record 8 l (four_bytes c.weight) ∙ ap (λ (bs : List ℕ). p ++ put l 8 bs) (sym (four_same c.weight))

  candidate-over : (compound : Bool) (old c : Candidate)
      → run (candidate_patches compound i c) (p ++ (candidate_bytes old ++ t)) ≡ p ++ (candidate_bytes (taken compound old (recorded c)) ++ t)
  unfolding run candidate_patches candidate_bytes put
  candidate-over true old c =
      let l = candidate_bytes old ++ t in
      let v = c.mv.first in
      let w = c.mv.second in
      ap (λ (m : List ℕ). put (put m (12 * i + 4) (mv_bytes w)) (12 * i + 8) (four_bytes c.weight)) (first-at l v)
      ∙ ap (λ (m : List ℕ). put m (12 * i + 8) (four_bytes c.weight)) (at-record 4 (put l 0 (mv_bytes v)) (mv_bytes w))
      ∙ weight-at (put (put l 0 (mv_bytes v)) 4 (mv_bytes w)) c
  candidate-over false old c =
      let l = candidate_bytes old ++ t in
      let v = c.mv.first in
      ap (λ (m : List ℕ). put m (12 * i + 8) (four_bytes c.weight)) (first-at l v) ∙ weight-at (put l 0 (mv_bytes v)) c

  fill-over : (old : Candidate) (f : Listing) → run (fill_patch f.fill i) (p ++ (candidate_bytes old ++ t)) ≡ p ++ (candidate_bytes (filled old f) ++ t)
  unfolding run fill_patch candidate_bytes put
  fill-over old f = first-at (candidate_bytes old ++ t) f.fill

-- a candidate as it stands in the eight records
in-eight : (l : List Candidate) (i : ℕ) → i < 8 → get_or (eight l) i nobody ≡ recorded (get_or l i nobody)
unfolding eight
in-eight l i h = tab-at (λ (k : ℕ). recorded (get_or l k nobody)) nobody 0 8 i h ∙ ap (λ (k : ℕ). recorded (get_or l k nobody)) (zero-add i)

module _ (compound : Bool) (f : Finding) where
  -- what is laid over record i, and what the record holds then
  abbrev slot_patches : ℕ → List Patch
  slot_patches i =
      pick (ltb i (length f.cands)) (candidate_patches compound i (get_or f.cands i nobody)) (pick compound [] (pick (ltb i 2) (fill_patch f.fill i) []))

  abbrev listing : Listing
  listing = (plan_for compound (got f)).found

  slot-over : (i : ℕ) → i < 8 → (p t : List ℕ) → length p ≡ 12 * i → (old : Candidate)
      → run (slot_patches i) (p ++ (candidate_bytes old ++ t)) ≡ p ++ (candidate_bytes (slot_of old listing i) ++ t)
  unfolding plan_for slot_of run
  slot-over i h p t n old = by (ltb i (length f.cands)) compound (ltb i 2)
    where
      by : (b c d : Bool)
          → run (pick b (candidate_patches c i (get_or f.cands i nobody)) (pick c [] (pick d (fill_patch f.fill i) []))) (p ++ (candidate_bytes old ++ t))
          ≡ p ++ (candidate_bytes (pick b (taken c old (get_or (eight f.cands) i nobody)) (pick c old (pick d (filled old listing) old))) ++ t)
      by true c d =
          candidate-over i p t n c old (get_or f.cands i nobody) ∙ ap (λ (x : Candidate). p ++ (candidate_bytes (taken c old x) ++ t)) (sym (in-eight f.cands i h))
      by false true d = refl
      by false false true = fill-over i p t n old listing
      by false false false = refl

  -- the script of the whole answer is what is laid over each of the eight records
  fills-by : compound ≡ false → (n : ℕ) → n ≡ length f.cands → n ≤ 8 → span slot_patches n 8 ≡ fills_script f.fill n
  unfolding fills_script
  fills-by c n e h = by (dec_lt n 2)
    where
      past : (i : ℕ) → n ≤ i → 2 ≤ i → slot_patches i ≡ []
      past i b d = rw (le-ltb i (length f.cands) (omega arith), c, le-ltb i 2 d)

      by : Dec (n < 2) → span slot_patches n 8 ≡ span (fill_patch f.fill) n 2
      by (yes l) =
          split slot_patches n 2 8 (omega arith) (omega arith)
          ∙ ap₂ (λ (x y : List Patch). x ++ y)
          (alike slot_patches (fill_patch f.fill) n 2 (λ i a b. rw (le-ltb i (length f.cands) (omega arith), c, lt-ltb i 2 b)))
          (nil slot_patches 2 8 (λ i a b. past i (omega arith) a))
          ∙ append-nil (span (fill_patch f.fill) n 2)
      by (no l) = nil slot_patches n 8 (λ i a b. past i a (omega arith)) ∙ sym (none (fill_patch f.fill) n 2 (omega arith))

  behind-by : (b : Bool) → compound ≡ b → length f.cands ≤ 8 → span slot_patches (length f.cands) 8 ≡ pick b [] (fills_script f.fill (length f.cands))
  behind-by true c h = nil slot_patches (length f.cands) 8 (λ i a b. rw (le-ltb i (length f.cands) a, c))
  behind-by false c h = fills-by c (length f.cands) refl h

  by_slots : length f.cands ≤ 8 → stack_script compound (got f) ≡ span slot_patches 0 8
  unfolding stack_script candidates_script
  by_slots h =
      let m = length f.cands in
      ap₂ (λ (x y : List Patch). x ++ y)
      (alike (λ i. candidate_patches compound i (get_or f.cands i nobody)) slot_patches 0 m (λ i a b. rw (lt-ltb i (length f.cands) b)))
      (sym (behind-by compound refl h))
      ∙ sym (split slot_patches 0 m 8 (omega arith) h)

twelve : (c : Candidate) → length (candidate_bytes c) ≡ 12
unfolding candidate_bytes
twelve c = refl

-- RECORDS, one behind the other: where the i-th patches lay the i-th record anew, all of them lay all
module _ (patches : ℕ → List Patch) (slot : Candidate → ℕ → Candidate)
    (one : (i : ℕ) → i < 8 → (p t : List ℕ) → length p ≡ 12 * i → (c : Candidate)
    → run (patches i) (p ++ (candidate_bytes c ++ t)) ≡ p ++ (candidate_bytes (slot c i) ++ t)) (rest : List ℕ) where
  all-over : (k i : ℕ) (cs : List Candidate) (p : List ℕ) → length p ≡ 12 * i → k ≤ length cs → i + k ≤ 8
      → run (over patches k i) (p ++ (bytes_of cs ++ rest)) ≡ p ++ (bytes_of (map_from slot cs i k) ++ rest)
  unfolding over run bytes_of map_from
  all-over zero i cs p n h g = ap (λ (l : List Candidate). p ++ (bytes_of l ++ rest)) (sym (map_from-none slot nobody cs i))
  all-over (suc k) i [] p n h g = absurd (omega arith)
  all-over (suc k) i (c ∷ cs) p n h g =
      let d = candidate_bytes (slot c i) in
      let u = bytes_of cs ++ rest in
      let v = bytes_of (map_from slot cs (suc i) k) ++ rest in
      run-append (patches i) (over patches k (suc i)) (p ++ ((candidate_bytes c ++ bytes_of cs) ++ rest))
      ∙ ap (λ (l : List ℕ). run (over patches k (suc i)) (run (patches i) (p ++ l))) (append_assoc (candidate_bytes c) (bytes_of cs) rest)
      ∙ ap (run (over patches k (suc i))) (one i (omega arith) p u n c ∙ sym (append_assoc p d u))
      ∙ all-over k (suc i) cs (p ++ d) (omega (arith, length-append p d, twelve (slot c i))) (omega arith) (omega arith)
      ∙ append_assoc p d v
      ∙ ap (λ (l : List ℕ). p ++ l) (sym (append_assoc d (bytes_of (map_from slot cs (suc i) k)) rest))

-- count and context
two-laid : (f : Finding) (found : List ℕ) → 2 ≤ length found → run (found_script (got f)) found ≡ length f.cands ∷ f.context ∷ drop 2 found
unfolding found_script run put
two-laid f [] h = absurd (omega arith)
two-laid f (x ∷ []) h = absurd (omega arith)
two-laid f (x ∷ y ∷ ns) h = refl

-- at most eight candidates
abbrev Few : SearchOutcome → Type 0
Few (refused n) = Unit
Few (got f) = length f.cands ≤ 8

few : (f : Frame) (t : Tile) (recs proj : List ℕ) (a : Ask) (r : SearchOutcome) → find_of f t recs proj a ≡ r → Few r
few f t recs proj a (refused n) e = tt
few f t recs proj a (got x) e = (find-sound f t recs proj a e).few

-- whatever a search gives
beside : (compound : Bool) (r : SearchOutcome) (cs : List Candidate) (rest found : List ℕ) → 8 ≤ length cs → 2 ≤ length found → Few r → {p : Plan} → p ≡ plan_for compound r
    → Beside p.answer cs (map_from (λ c i. slot_of c p.found i) cs 0 p.n) compound r rest found
unfolding plan_for stack_script found_script run span
beside compound (refused n) cs rest found h m l e = rw e (refl, map_from-none _ nobody cs 0, refl, refl)
beside compound (got f) cs rest found h m l e =
    rw e (
      refl,
      ap (λ (ps : List Patch). run ps (bytes_of cs ++ rest)) (by_slots compound f l)
          ∙ all-over (slot_patches compound f) (λ c i. slot_of c (listing compound f) i) (slot-over compound f) rest 8 0 cs [] refl h (omega arith),
      two-laid f found m,
    )

-- nothing is lacking
no-lack : (slots frame tile : ℕ) → 8 ≤ slots → 109 ≤ frame → 168 ≤ tile → lacking slots frame tile ≡ false
unfolding lacking
no-lack slots frame tile h f t = rw (le-ltb slots 8 h, le-ltb frame 109 f, le-ltb tile 168 t)

pub one_answer : (frame tile recs proj : List ℕ) (a : Ask) (cs : List Candidate) (rest found : List ℕ)
    → 109 ≤ length frame → 168 ≤ length tile → 8 ≤ length cs → 2 ≤ length found → OneAnswer frame tile recs proj a cs rest found
unfolding plan_of found_in
one_answer frame tile recs proj a cs rest found f t h n =
    let r = find_of (frame_at frame) (tile_at tile) recs proj a in
    let compound = is_ref a.refs.second in
    let e : plan_of (length cs) frame tile recs proj a ≡ plan_for compound r = rw (no-lack (length cs) (length frame) (length tile) h f t) in
    beside compound r cs rest found h n (few (frame_at frame) (tile_at tile) recs proj a r refl) e
