-- A capture file: its entries are there, its bodies tile it, no two entries have one kind, and what stands for a kind is one entry's body.
-- Assumes nothing.
use mathlib.Core.Path.{◌≡◌, refl, sym, ap, ap₂, ◌∙◌}
use mathlib.Core.Bool.{Bool, true, false, not, true≢false}
use mathlib.Core.List.{List, [], ◌++◌, append_assoc, append-nil}
use mathlib.Core.Logic.{◌⊎◌, inl, inr}
use denote.Ref.{Bor}
use Prim.Native.Nat.{ℕ, zero, suc, ◌+◌, ◌-◌, ◌*◌, ◌≤◌, ◌<◌}
use native.Mathlib.Numerals.{add-one}
use native.Mathlib.Omega.{arith}
use native.Mathlib.Decide.{ℕ_discrete}
use lib.Dec.{eqb, leb, ltb}
use lib.ListN.{length, take, drop, length-drop}
use lib.Seq.{take_all, take-add, length-take-le}
use borrow.Author.Tests.{leb-true, ltb-true, ltb-false, eqb-true, eqb-false, eq-eqb, ne_eqb, le-leb, le-ltb, lt-ltb, not-true}
use Rattle.ground.specs.Pick.{pick}
use Rattle.ground.proofs.Picks.{pick_true, pick-false, both}
use Rattle.ground.proofs.Belows as belows
use Rattle.ground.proofs.Diffs.{Which, more, less, which}
use Rattle.std.specs.Prelude.{Option, Some, None, Ok, Err, MatchOption, is_some, unwrap_or}
use Rattle.std.specs.Slice.{IsGetRangeResult}
use Rattle.capture.specs.declared.file.Span.{Span}
use Rattle.capture.specs.File.{entries, kind_at, offset_at, length_at, has_entries, start_of, tiled, whole_body, kinds, is_new, once, seek, entry_of, found, well_file, Scan, scan_of, part_of, body_at, body_of}
use Rattle.capture.specs.declared.file.Malformed.{Malformed}

-- the entries are few and there
pub record Counted (f : List ℕ) : Type 0 where
  pub some : 1 ≤ entries f
  pub few : entries f ≤ 32
  pub there : 1 + 9 * entries f ≤ length f

pub counted : (f : List ℕ) → has_entries f ≡ true → Counted f
unfolding has_entries
counted f h =
    let p = both _ (leb (1 + 9 * entries f) (length f)) h in
    let q = both _ (leb (entries f) 32) p.0 in
    record { some = leb-true _ _ q.0; few = leb-true _ _ q.1; there = leb-true _ _ p.1 }

pub has_all : (f : List ℕ) → 1 ≤ entries f → entries f ≤ 32 → 1 + 9 * entries f ≤ length f → has_entries f ≡ true
unfolding has_entries
has_all f s n t = rw (le-leb 1 (entries f) s, le-leb (entries f) 32 n, le-leb (1 + 9 * entries f) (length f) t)

pub no_entries : (f : List ℕ) → has_entries f ≡ false → well_file f ≡ false
unfolding well_file
no_entries f h = rw h

-- what each rule says of a well-formed file
pub record Rules (f : List ℕ) : Type 0 where
  pub has : has_entries f ≡ true
  pub starts : (i : ℕ) → i < entries f → offset_at f i ≡ start_of f i
  pub ends : start_of f (entries f) ≡ length f
  pub whole : (i : ℕ) → i < entries f → whole_body (kind_at f i) (length_at f i) ≡ true
  pub new : once f ≡ true
  pub first : kind_at f 0 ≡ 1
  pub jobs : entry_of f 2 < entries f

pub rules : (f : List ℕ) → well_file f ≡ true → Rules f
unfolding well_file tiled kinds
rules f h =
    let p = both _ (ltb (entry_of f 2) (entries f)) h in
    let q = both _ (eqb (kind_at f 0) 1) p.0 in
    let r = both _ (once f) q.0 in
    let s = both _ (kinds f) r.0 in
    let t = both (has_entries f) (tiled f) s.0 in
    let u = both _ (eqb (start_of f (entries f)) (length f)) t.1 in
    record {
      has = t.0;
      starts = λ i l. eqb-true _ _ (belows.at (λ j. eqb (offset_at f j) (start_of f j)) (entries f) i u.0 l);
      ends = eqb-true _ _ u.1;
      whole = λ i l. belows.at (λ j. whole_body (kind_at f j) (length_at f j)) (entries f) i s.1 l;
      new = r.1;
      first = eqb-true _ _ q.1;
      jobs = ltb-true _ _ p.1;
    }

-- where the bodies start and end
module _ (f : List ℕ) where
  pub start_first : start_of f 0 ≡ 1 + 9 * entries f
  unfolding start_of
  start_first = refl

  pub start-next : (i : ℕ) → start_of f (suc i) ≡ start_of f i + length_at f i
  unfolding start_of
  start-next i = refl

  -- as code counts
  pub start-on : (i : ℕ) → start_of f (i + 1) ≡ start_of f i + length_at f i
  start-on i = rw (add-one i) (start-next i)

  starts-rise : (i j : ℕ) → i ≤ j → start_of f i ≤ start_of f j
  starts-rise i zero h = let e : i ≡ 0 = omega arith in rw e (omega arith)
  starts-rise i (suc j) h = by (which j i) (starts-rise i j)
    where
      by : Which j i → (i ≤ j → start_of f i ≤ start_of f j) → start_of f i ≤ start_of f (suc j)
      by (more l) last = omega (arith, last l, start-next j)
      by (less l) last = let e : i ≡ suc j = omega arith in rw e (omega arith)

-- the body of entry i lies in the file, behind the entries
pub record Inside (f : List ℕ) (i : ℕ) : Type 0 where
  pub behind : 1 + 9 * entries f ≤ start_of f i
  pub rises : start_of f i ≤ start_of f (suc i)
  pub within : start_of f (suc i) ≤ length f

-- THE FIRST n BODIES, one behind the other
unfoldable pub bodies : List ℕ → ℕ → List ℕ
bodies f zero = []
bodies f (suc n) = bodies f n ++ part_of f (start_of f n) (start_of f (suc n))

-- the bodies follow each other from behind the entries to the file's end, and nothing else is there
pub record Tiles (f : List ℕ) : Type 0 where
  pub first : start_of f 0 ≡ 1 + 9 * entries f
  pub next : (i : ℕ) → start_of f (suc i) ≡ start_of f i + length_at f i
  pub last : start_of f (entries f) ≡ length f
  pub bytes : f ≡ take (1 + 9 * entries f) f ++ bodies f (entries f)

-- a part that is there
pub part-there : (f : List ℕ) (start end : ℕ) → start ≤ end → end ≤ length f → part_of f start end ≡ take (end - start) (drop start f)
unfolding part_of
part-there f start end h k = pick-false _ (le-ltb end start h) ∙ pick-false _ (le-ltb (length f) end k)

-- a part that is not there
no_part : (f : List ℕ) (start end : ℕ) → (end < start) ⊎ (length f < end) → [] ≡ part_of f start end
unfolding part_of
no_part f start end (inl h) = sym (pick_true _ (lt-ltb end start h))
no_part f start end (inr h) = by (ltb end start) (lt-ltb (length f) end h)
  where
    by : (b : Bool) → ltb (length f) end ≡ true → [] ≡ pick b [] (pick (ltb (length f) end) [] (take (end - start) (drop start f)))
    by true e = refl
    by false e = sym (pick_true _ e)

-- as the library gets it
pub part_got : (f : List ℕ) (start end : ℕ) (r : Option (Bor (List ℕ))) (none : Bor (List ℕ)) → none.now ≡ []
    → IsGetRangeResult f start end r → (unwrap_or r none).now ≡ part_of f start end
part_got f start end None none e (h, _) = e ∙ no_part f start end h
part_got f start end (Some p) none e (h, _) = h.2 ∙ sym (part-there f start end h.0 h.1)

pub part_length : (f : List ℕ) (start end : ℕ) → start ≤ end → end ≤ length f → length (part_of f start end) ≡ end - start
part_length f start end h k = ap length (part-there f start end h k) ∙ length-take-le (end - start) (drop start f) (omega (arith, length-drop start f))

module _ (f : List ℕ) (w : well_file f ≡ true) where
  well : Rules f
  well = rules f w

  pub inside : (i : ℕ) → i < entries f → Inside f i
  inside i h =
      let last = starts-rise f (suc i) (entries f) h in
      record {
        behind = omega (arith, starts-rise f 0 i (omega arith), start_first f);
        rises = starts-rise f i (suc i) (omega arith);
        within = omega (arith, last, well.ends);
      }

  -- up to where the first n bodies end
  tiled-to : (n : ℕ) → n ≤ entries f → take (start_of f n) f ≡ take (1 + 9 * entries f) f ++ bodies f n
  unfolding bodies
  tiled-to zero h = ap (λ (m : ℕ). take m f) (start_first f) ∙ sym (append-nil (take (1 + 9 * entries f) f))
  tiled-to (suc n) h =
      let b = inside n h in
      let s = start_of f n in
      let e : start_of f (suc n) ≡ s + (start_of f (suc n) - s) = omega (arith, b.rises) in
      ap (λ (m : ℕ). take m f) e
      ∙ take-add s (start_of f (suc n) - s) f
      ∙ ap₂ ◌++◌ (tiled-to n (omega arith)) (sym (part-there f s (start_of f (suc n)) b.rises b.within))
      ∙ append_assoc (take (1 + 9 * entries f) f) (bodies f n) _

  pub tiles : Tiles f
  tiles =
      record {
        first = start_first f;
        next = start-next f;
        last = well.ends;
        bytes = sym (take_all (start_of f (entries f)) f (omega (arith, well.ends))) ∙ tiled-to (entries f) (omega arith);
      }

  -- a later entry has another kind
  apart : (i j : ℕ) → i < j → j < entries f → kind_at f i ≡ kind_at f j → ⊥
  unfolding once is_new
  apart i j h k =
      let new = belows.at (is_new f) (entries f) j well.new k in
      eqb-false _ _ (not-true _ (belows.at (λ m. not (eqb (kind_at f m) (kind_at f j))) j i new h))

  -- two entries of one kind are the same entry
  pub only : (i j : ℕ) → i < entries f → j < entries f → kind_at f i ≡ kind_at f j → i ≡ j
  only i j h k e = by (which i j) (which j i)
    where
      by : Which i j → Which j i → i ≡ j
      by (less l) m = absurd (apart i j l k e)
      by (more l) (less m) = absurd (apart j i m h (sym e))
      by (more l) (more m) = omega arith

-- the search for a kind's entry: where it goes on, where it stops, and what it finds
module _ (f : List ℕ) (k : ℕ) where
  seek-off : (n i : ℕ) → (kind_at f i ≡ k → ⊥) → seek f k (suc n) i ≡ seek f k n (suc i)
  unfolding seek
  seek-off n i h = pick-false i (ne_eqb (kind_at f i) k h)

  seek-at : (n i : ℕ) → kind_at f i ≡ k → seek f k (suc n) i ≡ i
  unfolding seek
  seek-at n i h = pick_true (seek f k n (suc i)) (eq-eqb (kind_at f i) k h)

  seek-end : (i : ℕ) → seek f k 0 i ≡ i
  unfolding seek
  seek-end i = refl

  -- what is found first, and nothing found
  seek-first : (n i m : ℕ) → i ≤ m → m < n + i → kind_at f m ≡ k → ((j : ℕ) → i ≤ j → j < m → kind_at f j ≡ k → ⊥) → seek f k n i ≡ m
  seek-first zero i m h l e other = absurd (omega arith)
  seek-first (suc n) i m h l e other = by (which i m) (λ o. seek-first n (suc i) m o (omega arith) e (λ j p q. other j (omega arith) q))
    where
      by : Which i m → (i < m → seek f k n (suc i) ≡ m) → seek f k (suc n) i ≡ m
      by (less o) later = seek-off n i (other i (omega arith) o) ∙ later o
      by (more o) later = let x : i ≡ m = omega arith in seek-at n i (ap (kind_at f) x ∙ e) ∙ x

  seek-none : (n i : ℕ) → ((j : ℕ) → i ≤ j → j < n + i → kind_at f j ≡ k → ⊥) → seek f k n i ≡ n + i
  seek-none zero i other = omega (arith, seek-end i)
  seek-none (suc n) i other = omega (arith, seek-off n i (other i (omega arith) (omega arith)), seek-none n (suc i) (λ j p q. other j (omega arith) (omega (arith, q))))

  -- as code tells it
  pub found_by : {n : ℕ} (r : Option ℕ) → n ≡ entries f
      → MatchOption r ((j : ℕ) → 0 ≤ j → j < n → kind_at f j ≡ k → ⊥)
      (λ i. (0 ≤ i) × (i < n) × (kind_at f i ≡ k) × ((j : ℕ) → 0 ≤ j → j < i → kind_at f j ≡ k → ⊥))
      → r ≡ found f k
  unfolding found entry_of
  found_by None e other =
      let p = seek-none (entries f) 0 (λ j h l. other j h (omega (arith, l, e))) in
      sym (pick-false _ (le-ltb (seek f k (entries f) 0) (entries f) (omega (arith, p))))
  found_by (Some i) e (h, l, m, other) =
      let p = seek-first (entries f) 0 i h (omega (arith, l, e)) m other in
      sym (pick_true _ (lt-ltb (seek f k (entries f) 0) (entries f) (omega (arith, p, l, e))) ∙ ap Some p)

  seek_finds : (n i : ℕ) → seek f k n i < n + i → kind_at f (seek f k n i) ≡ k
  seek_finds zero i h = absurd (omega (arith, h, seek-end i))
  seek_finds (suc n) i h = by (ℕ_discrete (kind_at f i) k) (seek_finds n (suc i))
    where
      by : Dec (kind_at f i ≡ k) → (seek f k n (suc i) < n + suc i → kind_at f (seek f k n (suc i)) ≡ k) → kind_at f (seek f k (suc n) i) ≡ k
      by (yes e) later = ap (kind_at f) (seek-at n i e) ∙ e
      by (no d) later = ap (kind_at f) (seek-off n i d) ∙ later (omega (arith, h, seek-off n i d))

  seek-misses : (n i j : ℕ) → n + i ≤ seek f k n i → i ≤ j → j < n + i → kind_at f j ≡ k → ⊥
  seek-misses zero i j h l m e = omega arith
  seek-misses (suc n) i j h l m e = by (ℕ_discrete (kind_at f i) k) (which i j) (seek-misses n (suc i) j)
    where
      by : Dec (kind_at f i ≡ k) → Which i j → (n + suc i ≤ seek f k n (suc i) → suc i ≤ j → j < n + suc i → kind_at f j ≡ k → ⊥) → ⊥
      by (yes d) o later = omega (arith, h, seek-at n i d)
      by (no d) (less o) later = later (omega (arith, h, seek-off n i d)) o (omega (arith, m)) e
      by (no d) (more o) later = let x : i ≡ j = omega arith in d (ap (kind_at f) x ∙ e)

  pub found_some : is_some (found f k) ≡ ltb (entry_of f k) (entries f)
  unfolding found
  found_some = by (ltb (entry_of f k) (entries f))
    where
      by : (b : Bool) → is_some (pick b (Some (entry_of f k)) None) ≡ b
      by true = refl
      by false = refl

  pub entry-kind : entry_of f k < entries f → kind_at f (entry_of f k) ≡ k
  unfolding entry_of
  entry-kind h = seek_finds (entries f) 0 (omega arith)

  pub entry-none : entries f ≤ entry_of f k → (j : ℕ) → j < entries f → kind_at f j ≡ k → ⊥
  unfolding entry_of
  entry-none h j l = seek-misses (entries f) 0 j (omega arith) (omega arith) (omega arith)

pub scan_broken : (f : List ℕ) (k : ℕ) → well_file f ≡ false → Err (record {}) ≡ scan_of f k
unfolding scan_of
scan_broken f k h = rw h

-- a scan of a well-formed file, by what is found
module _ (f : List ℕ) (k : ℕ) (w : well_file f ≡ true) where
  pub scan_found : {i : ℕ} → found f k ≡ Some i
      → (i < entries f) × (Ok (Some (record { start = start_of f i; end = start_of f (i + 1) })) ≡ scan_of f k)
  unfolding found scan_of
  scan_found {i} h = by (ltb (entry_of f k) (entries f)) refl h
    where
      by : (b : Bool) → ltb (entry_of f k) (entries f) ≡ b → pick b (Some (entry_of f k)) None ≡ Some i
          → (i < entries f) × (Ok (Some (record { start = start_of f i; end = start_of f (i + 1) })) ≡ scan_of f k)
      by true p q =
          let e : entry_of f k ≡ i = ap (λ (o : Option ℕ). unwrap_or o 0) q in
          let l = ltb-true _ _ p in
          (omega (arith, l, e), rw (w, p, e, add-one i))
      by false p q = let z : ◌≡◌ {A = ℕ} 0 1 = cc in absurd (omega arith)

  pub scan_lacks : found f k ≡ None → Ok None ≡ scan_of f k
  unfolding found scan_of
  scan_lacks h = by (ltb (entry_of f k) (entries f)) refl h
    where
      by : (b : Bool) → ltb (entry_of f k) (entries f) ≡ b → pick b (Some (entry_of f k)) None ≡ None → Ok None ≡ scan_of f k
      by true p q = let z : ◌≡◌ {A = ℕ} 0 1 = cc in absurd (omega arith)
      by false p q = rw (w, p)

-- WHAT A PRESENT KIND'S TWO ENDS ARE: those of an entry of that kind; the body between them is as long as they are apart, and whole
pub record Stands (f : List ℕ) (k start end : ℕ) : Type 0 where
  pub well : well_file f ≡ true
  pub entry : ℕ
  pub there : entry < entries f
  pub kind : kind_at f entry ≡ k
  pub starts : start ≡ start_of f entry
  pub ends : end ≡ start_of f (suc entry)
  pub long : length (body_of f k) ≡ end - start
  pub whole : whole_body k (length (body_of f k)) ≡ true

-- no entry has the kind
pub record Lacks (f : List ℕ) (k : ℕ) : Type 0 where
  pub well : well_file f ≡ true
  pub none : (i : ℕ) → i < entries f → kind_at f i ≡ k → ⊥

module _ (f : List ℕ) (k : ℕ) where
  -- by the scan's two tests: the file is well formed, and an entry of the kind is there
  abbrev told : Bool → Bool → Scan
  told w l = pick (not w) (Err (record {})) (pick l (Ok (Some (record { start = start_of f (entry_of f k); end = start_of f (suc (entry_of f k)) }))) (Ok None))

  pub malformed : {m : Malformed} → scan_of f k ≡ Err m → well_file f ≡ false
  unfolding scan_of
  malformed {m} h = by (well_file f) (ltb (entry_of f k) (entries f)) h
    where
      by : (w l : Bool) → told w l ≡ Err m → w ≡ false
      by false l h = refl
      by true false h = cc
      by true true h = cc

  pub absent : scan_of f k ≡ Ok None → Lacks f k
  unfolding scan_of
  absent h = by (well_file f) (ltb (entry_of f k) (entries f)) refl refl h
    where
      by : (w l : Bool) → well_file f ≡ w → ltb (entry_of f k) (entries f) ≡ l → told w l ≡ Ok None → Lacks f k
      by false l p q h = let z : ◌≡◌ {A = ℕ} 0 1 = cc in absurd (omega arith)
      by true true p q h = let z : ◌≡◌ {A = ℕ} 0 1 = cc in absurd (omega arith)
      by true false p q h = record { well = p; none = entry-none f k (ltb-false _ _ q) }

  -- the two ends that a scan tells
  abbrev ends : Scan → Span
  ends (Ok (Some r)) = r
  ends (Ok None) = record { start = 0; end = 0 }
  ends (Err _) = record { start = 0; end = 0 }

  pub present : (start end : ℕ) → scan_of f k ≡ Ok (Some (record { start = start; end = end })) → Stands f k start end
  unfolding scan_of
  present start end h = by (well_file f) (ltb (entry_of f k) (entries f)) refl refl h
    where
      by : (w l : Bool) → well_file f ≡ w → ltb (entry_of f k) (entries f) ≡ l → told w l ≡ Ok (Some (record { start = start; end = end })) → Stands f k start end
      by false l p q e = let z : ◌≡◌ {A = ℕ} 0 1 = cc in absurd (omega arith)
      by true false p q e = let z : ◌≡◌ {A = ℕ} 0 1 = cc in absurd (omega arith)
      by true true p q e =
          let there = ltb-true _ _ q in
          let b = inside f p (entry_of f k) there in
          let x : start ≡ start_of f (entry_of f k) = sym (ap (λ (s : Scan). (ends s).start) e) in
          let y : end ≡ start_of f (suc (entry_of f k)) = sym (ap (λ (s : Scan). (ends s).end) e) in
          let fits = part_length f start end (omega (arith, b.rises, x, y)) (omega (arith, b.within, x, y)) in
          let long = ap (λ (s : Scan). length (body_at f s)) h ∙ fits in
          let n : length (body_of f k) ≡ length_at f (entry_of f k) = omega (arith, long, x, y, start-next f (entry_of f k)) in
          record {
            well = p;
            entry = entry_of f k;
            there = there;
            kind = entry-kind f k there;
            starts = x;
            ends = y;
            long = long;
            whole = ap₂ whole_body (sym (entry-kind f k there)) n ∙ (rules f p).whole (entry_of f k) there;
          }

whole-one : (n : ℕ) → whole_body 1 n ≡ true → n ≡ 67
unfolding whole_body
whole-one n e = eqb-true n 67 e

-- a well-formed file's description has its 67 bytes
pub described : (f : List ℕ) → well_file f ≡ true → length (body_of f 1) ≡ 67
described f w = by (scan_of f 1) refl
  where
    by : (s : Scan) → scan_of f 1 ≡ s → length (body_of f 1) ≡ 67
    by (Err _) e = absurd (true≢false (sym w ∙ malformed f 1 e))
    by (Ok None) e = absurd ((absent f 1 e).none 0 (counted f (rules f w).has).some (rules f w).first)
    by (Ok (Some r)) e = whole-one _ (present f 1 r.start r.end e).whole
