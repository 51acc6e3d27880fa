-- A load's steps: what each has to have, and that the whole load is its steps in order.
-- Assumes nothing.
use mathlib.Core.Path.{◌≡◌, refl, sym, ap, ap₂, ◌∙◌, subst⁻¹}
use mathlib.Core.Bool.{Bool, true, false, not, ◌&&◌}
use mathlib.Core.List.{List, [], ◌∷◌, ◌++◌}
use Prim.Native.Nat.{ℕ, zero, suc, ◌+◌, ◌-◌, ◌*◌, ◌/◌, ◌%◌, ◌≤◌, ◌<◌}
use native.Mathlib.Nat.{mul-zero, mul_comm, mul-le-mul, mul-le-mul_right, mod-lt, div-lt_iff_lt-mul}
use native.Mathlib.Decide.{dec_lt}
use native.Mathlib.Omega.{arith}
use lib.Dec.{eqb, ltb}
use lib.ListN.{length, get_or}
use borrow.Author.Tests.{eq-eqb, ne_eqb, ltb-false, not-false, not-true}
use Rattle.ground.specs.Below.{all_below}
use Rattle.ground.specs.Pick.{pick}
use Rattle.ground.specs.Script.{Patch, run}
use Rattle.ground.specs.Span.{span, first_of}
use Rattle.ground.proofs.Answers.{refused-not, or-accepts, or-refuses, run-accepted, run-refused}
use Rattle.ground.proofs.Belows as belows
use Rattle.ground.proofs.Picks.{both, pick_true, pick-false, or_off}
use Rattle.ground.proofs.Products.{row_fits}
use Rattle.ground.proofs.Spans as spans
use Rattle.frame.specs.declared.record.Frame.{Frame}
use Rattle.frame.specs.extent.Sizes.{saved_cells, projected_cells}
use Rattle.frame.specs.Record.{well_frame}
use Rattle.frame.proofs.Records.{frame-sizes}
use Rattle.cells.specs.declared.cell.Cell.{Cell}
use Rattle.cells.specs.Cell.{well_saved}
use Rattle.motion.specs.declared.saving.area.Area.{Area}
use Rattle.motion.specs.declared.saving.area.Window.{Window}
use Rattle.motion.specs.declared.loading.fields.Lent.{Lent}
use Rattle.motion.specs.declared.loading.used.Uses.{Uses}
use Rattle.motion.specs.saving.Area.{well_area, bottom_of, window_of}
use Rattle.motion.specs.landing.Row.{first_source, end_source, row_script, cell_read, sources_read, clear_row}
use Rattle.motion.specs.loading.Fields.{Sources, lengths_of, cells_of, cells_in, well_lent, long_enough, is_lent}
use Rattle.motion.specs.loading.Load.{ref_row, whole_script, rows_of, steps_of, pass_script, step_script, pass_read, step_read, load_front, load_reads, load_answer, load_script}
use Rattle.motion.specs.loading.Used.{uses_of, use_at}
use Rattle.motion.specs.Code.Needs.{Fielded, Readable, Fields}
use Rattle.motion.specs.Code.Places.{Bounded, Sound}
use Rattle.motion.proofs.saving.Areas as areas
use Rattle.motion.proofs.loading.Usings.{few-uses, able-uses}

-- where a row's reads have passed, its cells are well formed
pub sound : (cells : ℕ → Cell) (w : Window) → sources_read cells w ≡ 0 → Sound cells (first_source w) (end_source w)
unfolding sources_read cell_read
sound cells w z x h g = by (well_saved (cells x)) refl (spans.all-accept (cell_read cells) (first_source w) (end_source w) x z h g)
  where
    by : (b : Bool) → well_saved (cells x) ≡ b → ◌≡◌ {A = ℕ} (pick b 0 7) 0 → well_saved (cells x) ≡ true
    by true e k = e
    by false e k = absurd (omega arith)

-- a step's pass and row; r is how many rows there are
pub record Numbered (w : Window) (us : Uses) (k r : ℕ) : Type 0 where
  pub some : 0 < r
  pub pass : k / r ≤ us.n
  pub under : w.top.0 + k % r < w.bottom.0

pub within : (w : Window) (us : Uses) (k : ℕ) {r : ℕ} → r ≡ rows_of w → k < steps_of w us → Numbered w us k r
unfolding steps_of rows_of
within w us k e h =
    subst⁻¹ (Numbered w us k) e
    (record { some = some; pass = omega (arith, (div-lt_iff_lt-mul some).1 h); under = omega (arith, mod-lt k some) })
  where
    none : (r : ℕ) → r ≡ 0 → k < (1 + us.n) * r → ⊥
    none r e g = let z = ap (λ (n : ℕ). (1 + us.n) * n) e ∙ mul-zero (1 + us.n) in omega arith

    some : 0 < w.bottom.0 - w.top.0
    some = by (dec_lt 0 (w.bottom.0 - w.top.0))
      where
        by : Dec (0 < w.bottom.0 - w.top.0) → 0 < w.bottom.0 - w.top.0
        by (yes l) = l
        by (no l) = absurd (none (w.bottom.0 - w.top.0) (omega arith) h)

-- what a step of a load reads, by its number
pub readable : (lengths : List ℕ) (w : Window) (us : Uses) (k : ℕ) → Fields lengths w us → k < steps_of w us → Readable lengths w k
readable lengths w us k f h =
    let n = within w us k refl h in
    record { low = f.bounded.low; some = n.some; field = λ g. f.each (k / rows_of w - 1) (omega (arith, n.pass)) }

-- by the code's own count of rows
module _ {lengths : List ℕ} {w : Window} {k : ℕ} (q : Readable lengths w k) {r : ℕ} (e : r ≡ rows_of w) where
  pub row_under : w.top.0 + k % r < w.bottom.0
  unfolding rows_of
  row_under = let s : 0 < r = omega (arith, e, q.some) in omega (arith, e, mod-lt k s)

  pub row_field : (k / r ≡ 0 → ⊥) → Fielded lengths w (k / r - 1)
  row_field n =
      subst⁻¹ (λ (j : ℕ). Fielded lengths w (k / j - 1)) e (q.field (let z : k / r ≡ k / rows_of w = ap (λ (j : ℕ). k / j) e in omega arith))

-- a row of the window lies in the rows above its end
pub row-held : (w : Window) (y : ℕ) → Bounded w → y < w.bottom.0 → (y * w.stride.0 + w.stride.0 ≤ w.bottom.0 * w.stride.0) × (w.bottom.0 * w.stride.0 ≤ 65536 * 65536)
row-held w y b h = (row_fits y w.bottom.0 w.stride.0 h, mul-le-mul {n₂ = 65536} {m₂ = 65536} b.low b.narrow)

-- the length of a field among those of all
pub length-at : (fields : List (List ℕ)) (k : ℕ) → get_or (lengths_of fields) k 0 ≡ length (get_or fields k [])
length-at [] k = refl
length-at (f ∷ fs) zero = refl
length-at (f ∷ fs) (suc k) = length-at fs k

-- the first passes clear, each other takes a reference's rows
module _ (src : Sources) (w : Window) (k : ℕ) {r : ℕ} (e : r ≡ rows_of w) where
  pub clears-read : k / r ≡ 0 → 0 ≡ step_read src w k
  unfolding step_read pass_read
  clears-read z = sym (pick_true _ (eq-eqb (k / rows_of w) 0 (ap (λ (n : ℕ). k / n) (sym e) ∙ z)))

  pub takes-read : (k / r ≡ 0 → ⊥) → sources_read (src (k / r - 1) (w.top.0 + k % r)) w ≡ step_read src w k
  unfolding step_read pass_read
  takes-read n =
      ap (λ (j : ℕ). sources_read (src (k / j - 1) (w.top.0 + k % j)) w) e
      ∙ sym (pick-false 0 (ne_eqb (k / rows_of w) 0 (λ z. n (ap (λ (j : ℕ). k / j) e ∙ z))))

  module _ (us : Uses) where
    pub clears : k / r ≡ 0 → clear_row w (w.top.0 + k % r) ≡ step_script src w us k
    unfolding step_script pass_script
    clears z =
        ap (λ (n : ℕ). clear_row w (w.top.0 + k % n)) e
        ∙ sym (pick_true _ (eq-eqb (k / rows_of w) 0 (ap (λ (n : ℕ). k / n) (sym e) ∙ z)))

    pub takes : (k / r ≡ 0 → ⊥) → row_script (src (k / r - 1) (w.top.0 + k % r)) w (use_at us (k / r - 1)).motion (w.top.0 + k % r) ≡ step_script src w us k
    unfolding step_script pass_script ref_row
    takes n =
        ap (λ (j : ℕ). row_script (src (k / j - 1) (w.top.0 + k % j)) w (use_at us (k / j - 1)).motion (w.top.0 + k % j)) e
        ∙ sym (pick-false (clear_row w (w.top.0 + k % rows_of w)) (ne_eqb (k / rows_of w) 0 (λ z. n (ap (λ (j : ℕ). k / j) e ∙ z))))

-- THE WHOLE LOAD IS ITS STEPS, one after the other
pub whole-steps : (src : Sources) (w : Window) (us : Uses) → whole_script src w us ≡ span (step_script src w us) 0 (steps_of w us)
unfolding whole_script step_script pass_script steps_of rows_of
whole-steps src w us = by (dec_lt w.top.0 w.bottom.0)
  where
    r : ℕ
    r = w.bottom.0 - w.top.0

    g : ℕ → ℕ → List Patch
    g i t = pass_script src w us i (w.top.0 + t)

    -- a row of passes, as rows of the frame
    rows-of : (f : ℕ → List Patch) → w.top.0 ≤ w.bottom.0 → span (λ t. f (w.top.0 + t)) 0 r ≡ span f w.top.0 w.bottom.0
    rows-of f l =
        let a : w.top.0 + 0 ≡ w.top.0 = omega arith in
        let e : w.top.0 + r ≡ w.bottom.0 = omega arith in
        spans.shifted f w.top.0 0 r ∙ ap₂ (span f) a e

    h : ℕ → List Patch
    h i = span (g i) 0 r

    cleared : w.top.0 ≤ w.bottom.0 → span h 0 1 ≡ span (clear_row w) w.top.0 w.bottom.0
    cleared l =
        let o : 1 ≡ 0 + 1 = omega arith in
        ap (span h 0) o ∙ spans.one h 0 ∙ spans.alike (g 0) (λ t. clear_row w (w.top.0 + t)) 0 r (λ t _ _. pick_true (ref_row src w us (0 - 1) (w.top.0 + t)) (eq-eqb 0 0 refl)) ∙ rows-of (clear_row w) l

    taken : w.top.0 ≤ w.bottom.0 → span h 1 (1 + us.n) ≡ span (λ i. span (ref_row src w us i) w.top.0 w.bottom.0) 0 us.n
    taken l =
        let o : 1 ≡ 1 + 0 = omega arith in
        ap (λ (a : ℕ). span h a (1 + us.n)) o ∙ sym (spans.shifted h 1 0 us.n) ∙ spans.alike (λ i. h (1 + i)) (λ i. span (ref_row src w us i) w.top.0 w.bottom.0) 0 us.n (λ i _ _. one-pass i)
      where
        one-pass : (i : ℕ) → h (1 + i) ≡ span (ref_row src w us i) w.top.0 w.bottom.0
        one-pass i =
            let k : 1 + i - 1 ≡ i = omega arith in
            spans.alike (g (1 + i)) (λ t. ref_row src w us i (w.top.0 + t)) 0 r
            (λ t _ _. pick-false (clear_row w (w.top.0 + t)) (ne_eqb (1 + i) 0 (λ e. omega arith)) ∙ ap (λ (j : ℕ). ref_row src w us j (w.top.0 + t)) k)
            ∙ rows-of (ref_row src w us i) l

    by : Dec (w.top.0 < w.bottom.0)
        → span (clear_row w) w.top.0 w.bottom.0 ++ span (λ i. span (ref_row src w us i) w.top.0 w.bottom.0) 0 us.n
        ≡ span (λ k. g (k / r) (k % r)) 0 ((1 + us.n) * r)
    by (yes l) =
        sym
        (spans.grid g r (1 + us.n) ∙ spans.split h 0 1 (1 + us.n) (omega arith) (omega arith)
        ∙ ap₂ (λ (p q : List Patch). p ++ q) (cleared (omega arith)) (taken (omega arith)))
    by (no l) =
        let z : r ≡ 0 = omega arith in
        let e = ap (λ (n : ℕ). (1 + us.n) * n) z ∙ mul-zero (1 + us.n) in
        ap₂ (λ (p q : List Patch). p ++ q) (spans.none (clear_row w) w.top.0 w.bottom.0 (omega arith))
        (spans.nil (λ i. span (ref_row src w us i) w.top.0 w.bottom.0) 0 us.n
        (λ i _ _. spans.none (ref_row src w us i) w.top.0 w.bottom.0 (omega arith)))
        ∙ sym (spans.none (λ k. g (k / r) (k % r)) 0 ((1 + us.n) * r) (omega arith))

-- WHAT AN ADMISSION SHOWS
pub record Front (f : Frame) (a : Area) (lengths : List ℕ) (nproj : ℕ) : Type 0 where
  pub frame : well_frame f ≡ true
  pub area : well_area f.sizes a ≡ true
  pub fields : Fields lengths (window_of f.sizes a) (uses_of f)
  pub target : 5 * ((window_of f.sizes a).part + 16 * (window_of f.sizes a).stride.0) ≤ nproj

bounded : (f : Frame) (a : Area) → well_frame f ≡ true → well_area f.sizes a ≡ true → Bounded (window_of f.sizes a)
unfolding window_of
bounded f a e h =
    let s = frame-sizes f e in
    let k = areas.small f.sizes s in
    let q = areas.asked f.sizes a h in
    let c = areas.cut f.sizes a s h in
    record { cols = q.columns; wide = q.within; frame = k.columns; narrow = omega (arith, k.stride); low = omega (arith, c.bottom, k.rows) }

-- a used reference's field holds the window's rows
held : (f : Frame) (a : Area) (l : Lent) (lengths : List ℕ) (i : ℕ) → well_frame f ≡ true → well_area f.sizes a ≡ true
    → long_enough (5 * saved_cells f.sizes) (uses_of f) l lengths i ≡ true → is_lent (uses_of f) l i ≡ true
    → 5 * (bottom_of f.sizes a * f.sizes.stride.0) ≤ get_or lengths i 0
unfolding long_enough is_lent saved_cells
held f a l lengths i e h long there =
    let c = areas.cut f.sizes a (frame-sizes f e) h in
    let n = not-true (eqb (get_or l.form (use_at (uses_of f) i).field 0) 0) there in
    let g = ltb-false (get_or lengths i 0) (5 * (f.sizes.stride.0 * f.sizes.ih8.0)) (not-true _ (sym (or_off n) ∙ long)) in
    let m : bottom_of f.sizes a * f.sizes.stride.0 ≤ f.sizes.ih8.0 * f.sizes.stride.0 = mul-le-mul_right f.sizes.stride.0 c.bottom in
    let k = mul_comm f.sizes.ih8.0 f.sizes.stride.0 in
    omega arith

pub front : (f : Frame) (a : Area) (l : Lent) (lengths : List ℕ) (nproj : ℕ) → load_front f a l lengths nproj ≡ 0 → Front f a lengths nproj
unfolding load_front window_of
front f a l lengths nproj z =
    let us = uses_of f in
    let p1 = refused-not (not (well_frame f && well_lent l)) 0 _ z in
    let p2 = refused-not (not (well_area f.sizes a)) 2 _ p1.1 in
    let p3 = refused-not (ltb nproj (5 * projected_cells f.sizes)) 3 _ p2.1 in
    let p4 = refused-not (not (all_below us.n (long_enough (5 * saved_cells f.sizes) us l lengths))) 3 _ p3.1 in
    let p5 = refused-not (not (all_below us.n (is_lent us l))) 4 _ p4.1 in
    let e = (both (well_frame f) (well_lent l) (not-false _ p1.0)).0 in
    let h = not-false _ p2.0 in
    let t = areas.part-fits f.sizes a (frame-sizes f e) h in
    let g = ltb-false nproj (5 * projected_cells f.sizes) p3.0 in
    record {
      frame = e;
      area = h;
      fields = record {
        bounded = bounded f a e h;
        few = few-uses f;
        each = λ i b. record {
          bounded = bounded f a e h;
          place = omega (arith, few-uses f);
          source = held f a l lengths i e h (belows.at _ us.n i (not-false _ p4.0) b) (belows.at _ us.n i (not-false _ p5.0) b);
        };
        numbers = λ i b. (able-uses f e i b).numbers;
      };
      target = omega arith;
    }

-- of the code's own window and uses
pub ready : (f : Frame) (a : Area) (lengths : List ℕ) (nproj : ℕ) {w : Window} {us : Uses} → w ≡ window_of f.sizes a → us ≡ uses_of f → Front f a lengths nproj
    → Fields lengths w us × (5 * (w.part + 16 * w.stride.0) ≤ nproj)
ready f a lengths nproj {w} {us} e u p =
    subst⁻¹ (λ (v : Window). Fields lengths v us × (5 * (v.part + 16 * v.stride.0) ≤ nproj)) e
    (subst⁻¹ (λ (t : Uses). Fields lengths (window_of f.sizes a) t) u p.fields, p.target)

-- THE ENTRY'S THREE WAYS OUT
module _ (fields : List (List ℕ)) (f : Frame) (a : Area) (lent : Lent) (l : List ℕ) where
  pub front-refuses : {r : ℕ} → r ≡ load_front f a lent (lengths_of fields) (length l) → (r ≡ 0 → ⊥)
      → (r ≡ load_answer fields f a lent (length l)) × (l ≡ run (load_script fields f a lent (length l)) l)
  unfolding load_answer load_script
  front-refuses e n =
      let z = or-refuses (load_front f a lent (lengths_of fields) (length l)) (load_reads (cells_in fields f) f a) (λ k. n (e ∙ k)) in
      (e ∙ sym z, run-refused _ _ l (λ k. n (e ∙ sym z ∙ k)))

  module _ {w : Window} {us : Uses} (e : w ≡ window_of f.sizes a) (u : us ≡ uses_of f) (z : load_front f a lent (lengths_of fields) (length l) ≡ 0) where
    src : Sources
    src = cells_of fields w.stride.0

    -- the window's rows are as long as the frame's
    own : src ≡ cells_in fields f
    unfolding src window_of
    own = ap (λ (v : Window). cells_of fields v.stride.0) e

    reads : first_of (step_read src w) 0 (steps_of w us) ≡ load_answer fields f a lent (length l)
    unfolding load_reads load_answer
    reads =
        ap (λ (s : Sources). first_of (step_read s w) 0 (steps_of w us)) own
        ∙ ap₂ (λ (v : Window) (t : Uses). first_of (step_read (cells_in fields f) v) 0 (steps_of v t)) e u
        ∙ sym (or-accepts (load_front f a lent (lengths_of fields) (length l)) (load_reads (cells_in fields f) f a) z)

    pub reads-refuse : {r : ℕ} → r ≡ first_of (step_read (cells_of fields w.stride.0) w) 0 (steps_of w us) → (r ≡ 0 → ⊥)
        → (r ≡ load_answer fields f a lent (length l)) × (l ≡ run (load_script fields f a lent (length l)) l)
    unfolding load_script src
    reads-refuse q n = (q ∙ reads, run-refused _ _ l (λ k. n (q ∙ reads ∙ k)))

    pub loaded : {r : ℕ} {t : List ℕ} → r ≡ first_of (step_read (cells_of fields w.stride.0) w) 0 (steps_of w us) → r ≡ 0
        → t ≡ run (span (step_script (cells_of fields w.stride.0) w us) 0 (steps_of w us)) l
        → (0 ≡ load_answer fields f a lent (length l)) × (t ≡ run (load_script fields f a lent (length l)) l)
    unfolding load_script src
    loaded q k g = (
      sym k ∙ q ∙ reads,
      g ∙ ap (λ (p : List Patch). run p l) (sym (whole-steps src w us))
          ∙ ap (λ (s : Sources). run (whole_script s w us) l) own
          ∙ ap₂ (λ (v : Window) (t : Uses). run (whole_script (cells_in fields f) v t) l) e u
          ∙ run-accepted _ _ l (sym reads ∙ sym q ∙ k),
    )
