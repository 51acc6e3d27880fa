-- What a save's answer tells: of the frame and the area before the reads, of every row's reads, and of the room that its writes have.
-- Assumes nothing.
use mathlib.Core.Path.{◌≡◌, refl, sym, ◌∙◌, subst⁻¹}
use mathlib.Core.Bool.{true, not}
use mathlib.Core.List.{List}
use Prim.Native.Nat.{ℕ, ◌*◌, ◌≤◌, ◌<◌}
use native.Mathlib.Nat.{mul-le-mul_right, mul_comm}
use native.Mathlib.Omega.{arith}
use lib.Dec.{ltb}
use lib.ListN.{length}
use borrow.Author.Tests.{ltb-false, not-false}
use Rattle.ground.specs.Script.{run}
use Rattle.ground.specs.Span.{span, first_of}
use Rattle.ground.proofs.Answers.{refused-not, both-accept, or-accepts, or-refuses, run-accepted}
use Rattle.ground.proofs.Products.{row_fits}
use Rattle.frame.specs.declared.record.Frame.{Frame}
use Rattle.frame.specs.declared.extent.sizes.Sizes.{Sizes}
use Rattle.frame.specs.extent.Sizes.{saved_cells, records, well_sizes}
use Rattle.frame.specs.Record.{well_frame}
use Rattle.frame.proofs.Records.{frame-sizes}
use Rattle.rows.specs.Setup.{is_pass}
use Rattle.motion.specs.declared.saving.area.Area.{Area}
use Rattle.motion.specs.declared.saving.area.Strip.{Strip}
use Rattle.motion.specs.saving.Area.{well_area, strip_of}
use Rattle.motion.specs.Code.Rooms.{RowRoom, RowsRoom, Ready}
use Rattle.motion.specs.saving.Save.{row_read, row_patch, save_table, save_front, save_reads, save_answer, save_script}
use Rattle.motion.proofs.saving.Areas.{small, cut}

-- the room of all rows is the room of each
pub row_room : (nrecs total nfield : ℕ) {n : ℕ} (w : Strip) (y : ℕ) → RowsRoom nrecs total nfield w → n ≡ nfield → y < w.bottom.0 → RowRoom nrecs total n w y
row_room nrecs total nfield w y r e h =
    let k = row_fits y w.bottom.0 w.stride.0 h in
    record {
      cols = r.cols;
      wide = r.wide;
      narrow = r.narrow;
      low = omega (arith, r.low);
      records = r.records;
      cells = omega (arith, r.cells);
    }

-- what stands before the reads
pub record Front (f : Frame) (a : Area) (nrecs nfield : ℕ) : Type 0 where
  pub frame : well_frame f ≡ true
  pub area : well_area f.sizes a ≡ true
  pub cells : 5 * saved_cells f.sizes ≤ nfield
  pub recs : 12 * records f.sizes ≤ nrecs

pub front : {r : ℕ} (f : Frame) (a : Area) (pass nrecs nfield : ℕ) → r ≡ save_front f a pass nrecs nfield → r ≡ 0 → Front f a nrecs nfield
unfolding save_front
front f a pass nrecs nfield e z =
    let p12 = refused-not (not (is_pass pass)) 11 _ (sym e ∙ z) in
    let p1 = refused-not (not (well_frame f)) 0 _ p12.1 in
    let p3 = refused-not (not (well_area f.sizes a)) 2 _ p1.1 in
    let p4 = refused-not (ltb nfield (5 * saved_cells f.sizes)) 3 _ p3.1 in
    let p5 = refused-not (ltb nrecs (12 * records f.sizes)) 3 _ p4.1 in
    record {
      frame = not-false (well_frame f) p1.0;
      area = not-false (well_area f.sizes a) p3.0;
      cells = ltb-false nfield (5 * saved_cells f.sizes) p4.0;
      recs = ltb-false nrecs (12 * records f.sizes) p5.0;
    }

pub ready : {r : ℕ} (f : Frame) (a : Area) (pass nrecs nfield : ℕ) → r ≡ save_front f a pass nrecs nfield → r ≡ 0 → Ready nrecs f a
ready f a pass nrecs nfield e z =
    let k = front f a pass nrecs nfield e z in
    record { frame = k.frame; area = k.area; recs = k.recs }

-- what a row's walk asks for, by the code's own numbers
pub walk-ready : (f : Frame) (a : Area) {nrecs total : ℕ} {w : Strip} → w ≡ strip_of f.sizes a → total ≡ records f.sizes → Ready nrecs f a
    → (w.end.0 ≤ 65536) × (12 * total ≤ nrecs)
unfolding strip_of
walk-ready f a q t r =
    let s = frame-sizes f r.frame in
    let k = cut f.sizes a s r.area in
    (subst⁻¹ (λ (w : Strip). w.end.0 ≤ 65536) q (omega (arith, k.end, k.limit, (small f.sizes s).stride)), omega (arith, t, r.recs))

-- the reads of all rows, and all rows, by those numbers
pub reads_all : {r total : ℕ} {w : Strip} (recs : List ℕ) (f : Frame) (a : Area) (sby pass : ℕ) → w ≡ strip_of f.sizes a → total ≡ records f.sizes
    → r ≡ first_of (row_read recs total (save_table f a sby pass) w) w.top.0 w.bottom.0 → r ≡ save_reads recs f a sby pass
unfolding save_reads strip_of
reads_all recs f a sby pass e t k = k ∙ rw (e, t)

pub rows_all : {t : List ℕ} {w : Strip} (recs : List ℕ) (f : Frame) (a : Area) (sby pass nfield : ℕ) (l : List ℕ) → w ≡ strip_of f.sizes a
    → save_answer recs f a sby pass nfield ≡ 0 → t ≡ run (span (row_patch recs (save_table f a sby pass) f.refs w) w.top.0 w.bottom.0) l
    → t ≡ run (save_script recs f a sby pass nfield) l
unfolding save_script strip_of
rows_all recs f a sby pass nfield l e z k = k ∙ rw e (run-accepted _ _ _ z)

-- the rows of the area lie in the saved field, and its columns in a row
pub strip-room : (s : Sizes) (a : Area) (nrecs nfield : ℕ) → well_sizes s ≡ true → well_area s a ≡ true
    → 5 * saved_cells s ≤ nfield → 12 * records s ≤ nrecs → RowsRoom nrecs (records s) nfield (strip_of s a)
unfolding strip_of saved_cells
strip-room s a nrecs nfield e h l g =
    let k = small s e in
    let q = cut s a e h in
    let m = mul-le-mul_right s.stride.0 q.bottom in
    let v = mul_comm s.stride.0 s.ih8.0 in
    record {
      cols = q.end;
      wide = q.limit;
      narrow = omega (arith, k.stride);
      low = omega (arith, k.rows, q.bottom);
      records = g;
      cells = omega arith;
    }

-- the answer: the front's where it refuses, else the reads'
pub front-refuses : {r : ℕ} (recs : List ℕ) (f : Frame) (a : Area) (sby pass nfield : ℕ) → r ≡ save_front f a pass (length recs) nfield → (r ≡ 0 → ⊥)
    → r ≡ save_answer recs f a sby pass nfield
unfolding save_answer
front-refuses recs f a sby pass nfield e z = e ∙ sym (or-refuses (save_front f a pass (length recs) nfield) (save_reads recs f a sby pass) (λ y. z (e ∙ y)))

pub reads-answer : {r q : ℕ} (recs : List ℕ) (f : Frame) (a : Area) (sby pass nfield : ℕ) → r ≡ save_front f a pass (length recs) nfield → r ≡ 0
    → q ≡ save_reads recs f a sby pass → q ≡ save_answer recs f a sby pass nfield
unfolding save_answer
reads-answer recs f a sby pass nfield e z k = k ∙ sym (or-accepts (save_front f a pass (length recs) nfield) (save_reads recs f a sby pass) (sym e ∙ z))

-- what an accepted save may do, by the code's own numbers too
pub record Due (recs : List ℕ) (f : Frame) (a : Area) (sby pass nfield total : ℕ) (w : Strip) : Type 0 where
  pub sizes : well_sizes f.sizes ≡ true
  pub area : well_area f.sizes a ≡ true
  pub room : RowsRoom (length recs) total nfield w
  pub reads : first_of (row_read recs total (save_table f a sby pass) w) w.top.0 w.bottom.0 ≡ 0

pub due : {total : ℕ} {w : Strip} (recs : List ℕ) (f : Frame) (a : Area) (sby pass nfield : ℕ) → w ≡ strip_of f.sizes a → total ≡ records f.sizes
    → save_answer recs f a sby pass nfield ≡ 0 → Due recs f a sby pass nfield total w
unfolding save_answer save_reads strip_of
due recs f a sby pass nfield q t ok =
    let p = both-accept (save_front f a pass (length recs) nfield) (save_reads recs f a sby pass) ok in
    let k = front f a pass (length recs) nfield refl p.0 in
    let e = frame-sizes f k.frame in
    rw (q, t) (record { sizes = e; area = k.area; room = strip-room f.sizes a (length recs) nfield e k.area k.cells k.recs; reads = p.1 })
