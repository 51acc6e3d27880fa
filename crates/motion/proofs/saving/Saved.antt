-- The meaning of a save, for its readers: what it leaves as lent, and from which record each cell of its window is.
-- Assumes nothing.
use Rattle.std.specs.Prelude.{Option, None, Some}
use mathlib.Core.Path.{◌≡◌, refl, sym, ap, ◌∙◌}
use mathlib.Core.Logic.{◌⊎◌, ⊎_elim}
use mathlib.Core.Bool.{Bool, true, false}
use mathlib.Core.List.{List, [], ◌∷◌, ◌++◌}
use Prim.Native.Nat.{ℕ, zero, suc, ◌+◌, ◌-◌, ◌*◌, ◌^◌, ◌≤◌, ◌<◌}
use native.Mathlib.Numerals.{sub-one}
use native.Mathlib.Omega.{arith}
use lib.Dec.{ltb, lit<}
use lib.IntN.{ℤ, pos, negsuc, nat_abs}
use lib.ListN.{length, get_or, length-append}
use lib.Signed.{mag}
use borrow.Author.Tests.{le-ltb, ltb-true, ltb-false}
use Rattle.ground.specs.Pick.{pick}
use Rattle.ground.specs.Answer.{accepted}
use Rattle.ground.specs.Put.{put, copies}
use Rattle.ground.specs.Script.{Patch, run, Inside}
use Rattle.ground.specs.Sign.{from_to}
use Rattle.ground.specs.Span.{over, span}
use Rattle.ground.proofs.Picks.{both, pick_true, pick-false}
use Rattle.ground.proofs.Answers.{run-accepted, accepted-avoids}
use Rattle.ground.proofs.Diffs.{Which, more, less, which}
use Rattle.ground.proofs.Products.{row_fits}
use Rattle.ground.proofs.Puts.{put-append, put-length, copies_length}
use Rattle.ground.proofs.Scripts.{run-append, run_length, run-outside, inside-avoids}
use Rattle.ground.proofs.Signs.{from_is, from-to-most}
use Rattle.ground.proofs.Spans as spans
use Rattle.vector.specs.Vector.{within}
use Rattle.vector.proofs.Vectors.{Fits, within-is}
use Rattle.cells.specs.declared.block.Block.{Block}
use Rattle.cells.specs.declared.cell.Cell.{Cell}
use Rattle.cells.specs.Cell.{cell_at, cell_bytes}
use Rattle.cells.proofs.Cells.{cell-outside, cell-back}
use Rattle.frame.specs.declared.hints.distances.RefHint.{RefHint}
use Rattle.frame.specs.declared.record.Frame.{Frame}
use Rattle.frame.specs.extent.Sizes.{records}
use Rattle.rows.specs.declared.table.RowEntry.{RowEntry}
use Rattle.rows.specs.Table.{place_at}
use Rattle.motion.specs.declared.saving.area.Area.{Area}
use Rattle.motion.specs.declared.saving.area.Strip.{Strip}
use Rattle.motion.specs.saving.Area.{bottom_of, end_of, limit_of, strip_of}
use Rattle.motion.specs.saving.Save.{usable, no_cell, second_of_two, first_of_two, chosen, block_on, wide_on, walk_read, walk_bytes, entry_of, place_read, row_read, place_patch, row_patch, save_table, save_answer, save_script}
use Rattle.motion.proofs.saving.Areas.{cut}
use Rattle.motion.proofs.saving.Walks.{wide, first, row_opened, row-turn, place-walk, row-place}
use Rattle.motion.proofs.saving.Saves.{due}

-- WHERE. A row that passes ends at its limit at the latest.
module _ (recs : List ℕ) (total : ℕ) (refs : List RefHint) (o end limit : ℕ) where
  pub row-length : (n x : ℕ) → end - x ≤ n → x ≤ limit → walk_read recs total o end limit n x ≡ 0
      → 5 * x + length (walk_bytes recs refs o end n x) ≤ 5 * limit
  unfolding walk_bytes
  row-length zero x fuel h ok = omega arith
  row-length (suc n) x fuel h ok = turn (ltb x end) refl (row-length n)
    where
      turn : (t : Bool) → ltb x end ≡ t
          → ((y : ℕ) → end - y ≤ n → y ≤ limit → walk_read recs total o end limit n y ≡ 0 → 5 * y + length (walk_bytes recs refs o end n y) ≤ 5 * limit)
          → 5 * x + length (walk_bytes recs refs o end (suc n) x) ≤ 5 * limit
      turn false q ih = rw q (omega arith)
      turn true q ih =
          let m = ltb-true x end q in
          let p = first recs total o end limit (suc n) x fuel m ok in
          let w = wide_on recs o x in
          let k = wide (block_on recs o x).bs in
          let c = copies_length w (cell_bytes (chosen refs (block_on recs o x))) in
          let r = ih (x + w) (omega (arith, k.some)) p.0.fits (rw sub-one at p.1) in
          rw (q, length-append) (omega arith)

-- a row's patch lies in its columns, left up to the limit
pub row_inside : (recs : List ℕ) (total : ℕ) (rows : List RowEntry) (refs : List RefHint) (w : Strip) (y : ℕ) → w.left.0 ≤ w.limit.0
    → row_read recs total rows w y ≡ 0 → Inside (5 * (y * w.stride.0 + w.left.0)) (5 * (y * w.stride.0 + w.limit.0)) (row_patch recs rows refs w y)
unfolding row_read row_patch place_patch
row_inside recs total rows refs w y h z = by (place_at rows (entry_of y)) refl
  where
    by : (p : Option ℕ) → p ≡ place_at rows (entry_of y)
        → Inside (5 * (y * w.stride.0 + w.left.0)) (5 * (y * w.stride.0 + w.limit.0)) (place_patch recs refs w y p)
    by None e = tt
    by (Some o) e =
        let ok = place-walk recs total w (Some o) o refl (rw e z) in
        let l = row-length recs total refs o w.end.0 w.limit.0 (w.end.0 - w.left.0) w.left.0 (omega arith) h ok in
        ((omega arith, omega arith), tt)

-- row y of a save
abbrev pub save_row : List ℕ → Frame → Area → (sby pass y : ℕ) → List Patch
save_row recs f a sby pass y = row_patch recs (save_table f a sby pass) f.refs (strip_of f.sizes a) y

module _ (recs : List ℕ) (f : Frame) (a : Area) (sby pass : ℕ) where
  -- it passes where the save is accepted
  reads-row : (nfield y : ℕ) → save_answer recs f a sby pass nfield ≡ 0 → a.top.0 ≤ y → y < bottom_of f.sizes a
      → row_read recs (records f.sizes) (save_table f a sby pass) (strip_of f.sizes a) y ≡ 0
  unfolding strip_of
  reads-row nfield y ok h g =
      spans.all-accept (row_read recs (records f.sizes) (save_table f a sby pass) (strip_of f.sizes a)) a.top.0 (bottom_of f.sizes a) y
      (due recs f a sby pass nfield refl refl ok).reads h g

  pub row-in-window : (nfield y : ℕ) → save_answer recs f a sby pass nfield ≡ 0 → a.top.0 ≤ y → y < bottom_of f.sizes a
      → Inside (5 * (y * f.sizes.stride.0 + a.left.0)) (5 * (y * f.sizes.stride.0 + limit_of f.sizes a)) (save_row recs f a sby pass y)
  unfolding strip_of
  row-in-window nfield y ok h g =
      let d = due recs f a sby pass nfield refl refl ok in
      row_inside recs (records f.sizes) (save_table f a sby pass) f.refs (strip_of f.sizes a) y
      (cut f.sizes a d.sizes d.area).left (reads-row nfield y ok h g)

  -- EVERY BYTE OUTSIDE THE WINDOW IS AS LENT, whatever the answer: the window has the columns left up to the limit of each row of the area
  pub outside-window : (field : List ℕ) (i d : ℕ)
      → ((y : ℕ) → a.top.0 ≤ y → y < bottom_of f.sizes a
      → (i < 5 * (y * f.sizes.stride.0 + a.left.0)) ⊎ (5 * (y * f.sizes.stride.0 + limit_of f.sizes a) ≤ i))
      → get_or (run (save_script recs f a sby pass (length field)) field) i d ≡ get_or field i d
  unfolding save_script
  outside-window field i d out =
      run-outside _ field i d
      (accepted-avoids i (save_answer recs f a sby pass (length field)) _
      (λ z. spans.avoids (save_row recs f a sby pass) i a.top.0 (bottom_of f.sizes a)
      (λ y h g. inside-avoids _ _ i (save_row recs f a sby pass y) (row-in-window (length field) y z h g) (out y h g))))

-- WHAT IS KEPT can be read again: a usable cell, or no motion.
pub record Held (c : Cell) : Type 0 where
  pub mv : Fits c.mv
  pub reference : mag c.reference.0 < 2 ^ 7

near : (m : ℕ) (z : ℤ) → nat_abs z ≤ m → mag z ≤ m
near m (pos n) h = h
near m (negsuc n) h = omega arith

usable-held : (refs : List RefHint) (c : Cell) → usable refs c ≡ true → Held c
unfolding usable
usable-held refs c e =
    let p = both _ (within 4095 c.mv) e in
    let q = both (from_to (pos 1) (pos 7) c.reference.0) _ p.0 in
    let k = from_is 1 (pos 7) c.reference.0 q.0 in
    let m = from-to-most (pos 1) 7 k.n (ap (from_to (pos 1) (pos 7)) (sym k.is) ∙ q.0) in
    let r = ap mag k.is in
    let w = (within-is 4095 c.mv).1 p.1 in
    record {
      mv = record { y = omega (arith, near 4095 c.mv.y w.y); x = omega (arith, near 4095 c.mv.x w.x) };
      reference = omega arith;
    }

pub chosen-held : (refs : List RefHint) (b : Block) → Held (chosen refs b)
unfolding chosen
chosen-held refs b = by (usable refs (second_of_two b)) refl (usable refs (first_of_two b)) refl
  where
    by : (s : Bool) → usable refs (second_of_two b) ≡ s → (t : Bool) → usable refs (first_of_two b) ≡ t → Held (pick s (second_of_two b) (pick t (first_of_two b) no_cell))
    by true e t g = usable-held refs (second_of_two b) e
    by false e true g = usable-held refs (first_of_two b) g
    by false e false g = record { mv = record { y = lit< tt; x = lit< tt }; reference = lit< tt }

-- each of a run of like cells
copies-cell : (s : List ℕ) (c : Cell) → Held c → (n i j : ℕ) → j < n → 5 * (i + j) + 5 ≤ length s → cell_at (put s (5 * i) (copies n (cell_bytes c))) (i + j) ≡ c
unfolding copies
copies-cell s c k zero i j h g = absurd (omega arith)
copies-cell s c k (suc n) i zero h g =
    let e : i + zero ≡ i = omega arith in
    ap (λ (l : List ℕ). cell_at l (i + zero)) (put-append s (5 * i) (cell_bytes c) (copies n (cell_bytes c)))
    ∙ cell-outside (put s (5 * i) (cell_bytes c)) (5 * i + length (cell_bytes c)) (copies n (cell_bytes c)) (i + zero) (◌⊎◌.inl (omega arith))
    ∙ ap (cell_at (put s (5 * i) (cell_bytes c))) e
    ∙ cell-back s i c (omega arith) k.mv k.reference
copies-cell s c k (suc n) i (suc j) h g =
    let e : 5 * i + length (cell_bytes c) ≡ 5 * (i + 1) = omega arith in
    let e' : i + suc j ≡ i + 1 + j = omega arith in
    let l = put-length s (5 * i) (cell_bytes c) in
    ap (λ (l : List ℕ). cell_at l (i + suc j)) (put-append s (5 * i) (cell_bytes c) (copies n (cell_bytes c)))
    ∙ ap (λ (p : ℕ). cell_at (put (put s (5 * i) (cell_bytes c)) p (copies n (cell_bytes c))) (i + suc j)) e
    ∙ ap (cell_at (put (put s (5 * i) (cell_bytes c)) (5 * (i + 1)) (copies n (cell_bytes c)))) e'
    ∙ copies-cell (put s (5 * i) (cell_bytes c)) c k n (i + 1) j (omega arith) (omega arith)

-- A ROW WITH NO BOUND on the number of its blocks: any bound that is large enough gives the same bytes.
module _ (recs : List ℕ) (refs : List RefHint) (o end : ℕ) where
  pub fuel-free : (n m x : ℕ) → end - x ≤ n → end - x ≤ m → walk_bytes recs refs o end n x ≡ walk_bytes recs refs o end m x
  unfolding walk_bytes
  fuel-free zero zero x g h = refl
  fuel-free zero (suc m) x g h = rw (le-ltb x end (omega arith))
  fuel-free (suc n) zero x g h = rw (le-ltb x end (omega arith))
  fuel-free (suc n) (suc m) x g h = turn (ltb x end) refl (fuel-free n m (x + wide_on recs o x))
    where
      turn : (t : Bool) → ltb x end ≡ t
          → (end - (x + wide_on recs o x) ≤ n → end - (x + wide_on recs o x) ≤ m
          → walk_bytes recs refs o end n (x + wide_on recs o x) ≡ walk_bytes recs refs o end m (x + wide_on recs o x))
          → walk_bytes recs refs o end (suc n) x ≡ walk_bytes recs refs o end (suc m) x
      turn false q ih = rw q
      turn true q ih =
          let k = wide (block_on recs o x).bs in
          let l = ltb-true x end q in
          rw (q, ih (omega (arith, k.some)) (omega (arith, k.some)))

  -- the row from column x on: a block's cells and the row after it, and nothing where no block starts
  abbrev pub row_from : ℕ → List ℕ
  row_from x = walk_bytes recs refs o end (end - x) x

  pub row_block : (x : ℕ) → x < end → row_from x ≡ copies (wide_on recs o x) (cell_bytes (chosen refs (block_on recs o x))) ++ row_from (x + wide_on recs o x)
  row_block x h =
      row_opened recs refs o end (end - x) x (omega arith) h
      ∙ ap (λ (r : List ℕ). copies (wide_on recs o x) (cell_bytes (chosen refs (block_on recs o x))) ++ r)
      (fuel-free (end - x - 1) (end - (x + wide_on recs o x)) (x + wide_on recs o x) (omega (arith, (wide (block_on recs o x).bs).some)) (omega arith))

  pub row-end : (x : ℕ) → end ≤ x → row_from x ≡ []
  unfolding walk_bytes
  row-end x h = fuel-free (end - x) 0 x (omega arith) (omega arith)

-- The column where the block that covers column c starts, in a walk of n blocks from column x on.
unfoldable pub cover : List ℕ → (o n x c : ℕ) → ℕ
cover recs o zero x c = x
cover recs o (suc n) x c = pick (ltb c (x + wide_on recs o x)) x (cover recs o n (x + wide_on recs o x) c)

module _ (recs : List ℕ) (o : ℕ) where
  cover-here : (n x c : ℕ) → ltb c (x + wide_on recs o x) ≡ true → cover recs o (suc n) x c ≡ x
  unfolding cover
  cover-here n x c q = pick_true _ q

  cover_on : (n x c : ℕ) → ltb c (x + wide_on recs o x) ≡ false → cover recs o (suc n) x c ≡ cover recs o n (x + wide_on recs o x) c
  unfolding cover
  cover_on n x c q = pick-false _ q

  -- it does cover it
  pub covers : (n x c : ℕ) → x ≤ c → c - x < n → (cover recs o n x c ≤ c) × (c < cover recs o n x c + wide_on recs o (cover recs o n x c))
  covers zero x c h g = absurd (omega arith)
  covers (suc n) x c h g = turn (ltb c (x + wide_on recs o x)) refl (covers n (x + wide_on recs o x) c)
    where
      turn : (t : Bool) → ltb c (x + wide_on recs o x) ≡ t
          → (x + wide_on recs o x ≤ c → c - (x + wide_on recs o x) < n
          → (cover recs o n (x + wide_on recs o x) c ≤ c)
          × (c < cover recs o n (x + wide_on recs o x) c + wide_on recs o (cover recs o n (x + wide_on recs o x) c)))
          → (cover recs o (suc n) x c ≤ c) × (c < cover recs o (suc n) x c + wide_on recs o (cover recs o (suc n) x c))
      turn true q ih = rw (cover-here n x c q) (h, ltb-true c (x + wide_on recs o x) q)
      turn false q ih =
          let p = ltb-false c (x + wide_on recs o x) q in
          rw (cover_on n x c q) (ih p (omega (arith, (wide (block_on recs o x).bs).some)))

module _ (recs : List ℕ) (refs : List RefHint) (o end k : ℕ) where
  -- each column of a row, up to the end, holds the cell of the block that covers it
  pub row-cell : (s : List ℕ) (n x c : ℕ) → end - x ≤ n → x ≤ c → c < end → 5 * (k + end) ≤ length s
      → cell_at (put s (5 * (k + x)) (walk_bytes recs refs o end n x)) (k + c) ≡ chosen refs (block_on recs o (cover recs o n x c))
  row-cell s zero x c fuel h g l = absurd (omega arith)
  row-cell s (suc n) x c fuel h g l =
      let b = block_on recs o x in
      let w = wide_on recs o x in
      let t = put s (5 * (k + x)) (copies w (cell_bytes (chosen refs b))) in
      let v = put-length s (5 * (k + x)) (copies w (cell_bytes (chosen refs b))) in
      ap (λ (m : List ℕ). cell_at m (k + c))
      (sym (rw sub-one at (row-turn recs refs o end k s (suc n) x fuel (omega arith) refl refl refl)))
      ∙ turn (ltb c (x + w)) refl (row-cell t n (x + w) c)
    where
      turn : (q : Bool) → ltb c (x + wide_on recs o x) ≡ q
          → (end - (x + wide_on recs o x) ≤ n → x + wide_on recs o x ≤ c → c < end
          → 5 * (k + end) ≤ length (put s (5 * (k + x)) (copies (wide_on recs o x) (cell_bytes (chosen refs (block_on recs o x)))))
          → cell_at (put (put s (5 * (k + x)) (copies (wide_on recs o x) (cell_bytes (chosen refs (block_on recs o x))))) (5 * (k + (x + wide_on recs o x))) (walk_bytes recs refs o end n (x + wide_on recs o x))) (k + c)
          ≡ chosen refs (block_on recs o (cover recs o n (x + wide_on recs o x) c)))
          → cell_at (put (put s (5 * (k + x)) (copies (wide_on recs o x) (cell_bytes (chosen refs (block_on recs o x))))) (5 * (k + (x + wide_on recs o x))) (walk_bytes recs refs o end n (x + wide_on recs o x))) (k + c)
          ≡ chosen refs (block_on recs o (cover recs o (suc n) x c))
      turn true q ih =
          let p = ltb-true c (x + wide_on recs o x) q in
          let e : k + c ≡ k + x + (c - x) = omega arith in
          cell-outside _ (5 * (k + (x + wide_on recs o x))) _ (k + c) (◌⊎◌.inl (omega arith))
          ∙ ap (cell_at (put s (5 * (k + x)) (copies (wide_on recs o x) (cell_bytes (chosen refs (block_on recs o x)))))) e
          ∙ copies-cell s (chosen refs (block_on recs o x)) (chosen-held refs (block_on recs o x)) (wide_on recs o x) (k + x) (c - x) (omega arith) (omega arith)
          ∙ ap (λ (y : ℕ). chosen refs (block_on recs o y)) (sym (cover-here recs o n x c q))
      turn false q ih =
          let p = ltb-false c (x + wide_on recs o x) q in
          ih (omega (arith, (wide (block_on recs o x).bs).some)) p g (omega (arith, put-length s (5 * (k + x)) (copies (wide_on recs o x) (cell_bytes (chosen refs (block_on recs o x))))))
          ∙ ap (λ (y : ℕ). chosen refs (block_on recs o y)) (sym (cover_on recs o n x c q))

-- a cell beside the patches of a script, and of a span of them, stays
cell_stays : (lo hi i : ℕ) (ps : List Patch) (l : List ℕ) → Inside lo hi ps → (5 * i + 5 ≤ lo) ⊎ (hi ≤ 5 * i) → cell_at (run ps l) i ≡ cell_at l i
unfolding run
cell_stays lo hi i [] l h out = refl
cell_stays lo hi i (p ∷ ps) l h out =
    cell_stays lo hi i ps (put l p.at p.bytes) h.1 out
    ∙ cell-outside l p.at p.bytes i (⊎_elim (λ q. ◌⊎◌.inl (omega arith)) (λ q. ◌⊎◌.inr (omega arith)) out)

cell-span : (f : ℕ → List Patch) (i a e : ℕ) (l : List ℕ) → ((y : ℕ) → a ≤ y → y < e → (m : List ℕ) → cell_at (run (f y) m) i ≡ cell_at m i)
    → cell_at (run (span f a e) l) i ≡ cell_at l i
unfolding span over run
cell-span f i a e l h = go (e - a) a l (λ y p q. h y p (omega arith))
  where
    go : (n a : ℕ) (l : List ℕ) → ((y : ℕ) → a ≤ y → y < a + n → (m : List ℕ) → cell_at (run (f y) m) i ≡ cell_at m i) → cell_at (run (over f n a) l) i ≡ cell_at l i
    go zero a l h = refl
    go (suc n) a l h =
        ap (λ (m : List ℕ). cell_at m i) (run-append (f a) (over f n (suc a)) l)
        ∙ go n (suc a) (run (f a) l) (λ y p q. h y (omega arith) (omega arith))
        ∙ h a (omega arith) (omega arith) l

-- a cell of row r lies beside the window's part of row y, where it is not in it
beside-row : (stride left limit r x y : ℕ) → x < stride → limit ≤ stride → (y ≡ r → (x < left) ⊎ (limit ≤ x))
    → (5 * (r * stride + x) + 5 ≤ 5 * (y * stride + left)) ⊎ (5 * (y * stride + limit) ≤ 5 * (r * stride + x))
beside-row stride left limit r x y h g out = by (which y r) (which r y)
  where
    by : Which y r → Which r y → (5 * (r * stride + x) + 5 ≤ 5 * (y * stride + left)) ⊎ (5 * (y * stride + limit) ≤ 5 * (r * stride + x))
    by (less l) q = let k = row_fits y r stride l in ◌⊎◌.inr (omega arith)
    by (more l) (less q) = let k = row_fits r y stride q in ◌⊎◌.inl (omega arith)
    by (more l) (more q) =
        let e : y ≡ r = omega arith in
        let k = ap (λ (n : ℕ). n * stride) e in
        ⊎_elim (λ u. ◌⊎◌.inl (omega arith)) (λ u. ◌⊎◌.inr (omega arith)) (out e)

module _ (recs : List ℕ) (f : Frame) (a : Area) (sby pass : ℕ) (field : List ℕ) where
  -- the field afterwards
  abbrev pub after : List ℕ
  after = run (save_script recs f a sby pass (length field)) field

  -- EVERY CELL OUTSIDE THE WINDOW IS AS LENT, whatever the answer
  pub elsewhere : (r x : ℕ) → x < f.sizes.stride.0
      → (a.top.0 ≤ r → r < bottom_of f.sizes a → (x < a.left.0) ⊎ (limit_of f.sizes a ≤ x))
      → cell_at after (r * f.sizes.stride.0 + x) ≡ cell_at field (r * f.sizes.stride.0 + x)
  unfolding save_script run
  elsewhere r x h out = by (save_answer recs f a sby pass (length field)) refl
    where
      by : (n : ℕ) → save_answer recs f a sby pass (length field) ≡ n
          → cell_at (run (accepted n (span (save_row recs f a sby pass) a.top.0 (bottom_of f.sizes a))) field) (r * f.sizes.stride.0 + x)
          ≡ cell_at field (r * f.sizes.stride.0 + x)
      by (suc n) z = refl
      by zero z =
          let d = due recs f a sby pass (length field) refl refl z in
          let q = cut f.sizes a d.sizes d.area in
          cell-span (save_row recs f a sby pass) (r * f.sizes.stride.0 + x) a.top.0 (bottom_of f.sizes a) field
          (λ y p g m. cell_stays (5 * (y * f.sizes.stride.0 + a.left.0)) (5 * (y * f.sizes.stride.0 + limit_of f.sizes a)) (r * f.sizes.stride.0 + x) (save_row recs f a sby pass y) m
          (row-in-window recs f a sby pass (length field) y z p g)
          (beside-row f.sizes.stride.0 a.left.0 (limit_of f.sizes a) r x y h q.limit (λ e. out (omega arith) (omega arith))))

  -- THE MEANING OF A SAVE. Column c's cell of row y is the choice from the record, in the row of records that the table has for y, of the block that covers c.
  pub record From (y c : ℕ) : Type 0 where
    pub o : ℕ
    pub row : place_at (save_table f a sby pass) (entry_of y) ≡ Some o
    pub cell : cell_at after (y * f.sizes.stride.0 + c)
        ≡ chosen f.refs (block_on recs o (cover recs o (end_of f.sizes a - a.left.0) a.left.0 c))
    pub covered : (cover recs o (end_of f.sizes a - a.left.0) a.left.0 c ≤ c)
        × (c < cover recs o (end_of f.sizes a - a.left.0) a.left.0 c + wide_on recs o (cover recs o (end_of f.sizes a - a.left.0) a.left.0 c))

  pub saved-cell : (y c : ℕ) → save_answer recs f a sby pass (length field) ≡ 0 → a.top.0 ≤ y → y < bottom_of f.sizes a
      → a.left.0 ≤ c → c < end_of f.sizes a → From y c
  unfolding save_script row_patch place_patch place_read strip_of run
  saved-cell y c z h g l u = by (place_at (save_table f a sby pass) (entry_of y)) refl
    where
      -- the field when row y's turn comes, and after it
      before : List ℕ
      before = run (span (save_row recs f a sby pass) a.top.0 y) field

      laid : List ℕ
      laid = run (save_row recs f a sby pass y) before

      at : ℕ
      at = y * f.sizes.stride.0 + c

      by : (p : Option ℕ) → place_at (save_table f a sby pass) (entry_of y) ≡ p → From y c
      by None e =
          let q : ◌≡◌ {A = ℕ} 6 0 = row-place recs (records f.sizes) (strip_of f.sizes a) (save_table f a sby pass) y (sym e) (reads-row recs f a sby pass (length field) y z h g) (omega arith) in
          absurd (omega arith)
      by (Some o) e =
          let d = due recs f a sby pass (length field) refl refl z in
          let q = cut f.sizes a d.sizes d.area in
          let k = row_fits y (bottom_of f.sizes a) f.sizes.stride.0 g in
          let n = run_length (span (save_row recs f a sby pass) a.top.0 y) field in
          record {
            o = o;
            row = e;
            cell =
                ap (λ (m : List ℕ). cell_at m at) (sym (run-accepted (save_answer recs f a sby pass (length field)) (span (save_row recs f a sby pass) a.top.0 (bottom_of f.sizes a)) field z))
                ∙ ap (λ (m : List ℕ). cell_at m at) (sym (spans.on (save_row recs f a sby pass) a.top.0 (y + 1) (bottom_of f.sizes a) (omega arith) (omega arith) field (spans.more (save_row recs f a sby pass) a.top.0 y h field refl refl) refl))
                ∙ cell-span (save_row recs f a sby pass) at (y + 1) (bottom_of f.sizes a) laid
                (λ r p v m. cell_stays (5 * (r * f.sizes.stride.0 + a.left.0)) (5 * (r * f.sizes.stride.0 + limit_of f.sizes a)) at (save_row recs f a sby pass r) m
                (row-in-window recs f a sby pass (length field) r z (omega arith) v)
                (beside-row f.sizes.stride.0 a.left.0 (limit_of f.sizes a) y c r (omega (arith, q.end, q.limit)) q.limit (λ i. absurd (omega arith))))
                ∙ ap (λ (p : Option ℕ). cell_at (run (place_patch recs f.refs (strip_of f.sizes a) y p) before) at) e
                ∙ row-cell recs f.refs o (end_of f.sizes a) (y * f.sizes.stride.0) before (end_of f.sizes a - a.left.0) a.left.0 c (omega arith) l u
                (omega (arith, d.room.cells, q.end, q.limit));
            covered = covers recs o (end_of f.sizes a - a.left.0) a.left.0 c l (omega arith);
          }
