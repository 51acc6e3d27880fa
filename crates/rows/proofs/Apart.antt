-- Where the rows of a table lie: each is a whole row of the tile row's part, no two overlap, and the parts of two tile rows or two passes lie apart
-- inside the listed records.
-- Assumes nothing.
use mathlib.Core.Path.{◌≡◌, refl, sym, ap, ◌∙◌}
use mathlib.Core.Logic.{◌⊎◌, inl, inr}
use mathlib.Core.Bool.{Bool, true, false, ◌&&◌}
use Prim.Native.Nat.{ℕ, suc, ◌+◌, ◌*◌, ◌≤◌, ◌<◌}
use native.Mathlib.Omega.{arith}
use lib.Dec.{eqb, ltb}
use borrow.Author.Tests.{ltb-true, eqb-true, lt-ltb, le-ltb}
use Rattle.ground.specs.Pick.{pick}
use Rattle.ground.specs.Below.{all_below}
use Rattle.ground.proofs.Picks.{both, pick_true, pick-false}
use Rattle.ground.proofs.Belows as belows
use Rattle.ground.proofs.Diffs.{Which, more, less, which}
use Rattle.ground.proofs.Products.{row_fits}
use Rattle.frame.specs.declared.extent.sizes.Sizes.{Sizes}
use Rattle.frame.specs.extent.Sizes.{superblock, part_of, records, well_sizes}
use Rattle.frame.proofs.extent.Sizing.{fits, part-fits}
use Rattle.std.specs.Prelude.{Option, None, Some}
use Rattle.rows.specs.Table.{row_of, partner, offset_of, row_at, placed, entry_at, table_of, place_at}
use Rattle.rows.specs.Setup.{pass_start, part_start, odd_row, table_for, in_frame}
use Rattle.rows.proofs.Tabled.{sides, entry}
use Rattle.rows.proofs.Parts.{in_frame_lem, part-listed}

-- the entry that stands for row j of the part: what makes two entries stand for two rows
line_of : ℕ → Bool → ℕ → ℕ
line_of n odd j =
    let line = pick (ltb j n) (j + 5) (pick (eqb j n) 0 (pick (eqb j (n + 1)) 2 4)) in
    offset_of n odd + pick odd (partner n line) line

-- one of the 35 rows of the part, and its own entry's
own_row : ℕ → Bool → ℕ → Option ℕ → Bool
own_row n odd e None = true
own_row n odd e (Some j) = ltb j (n + 3) && eqb (line_of n odd j) e

all_own : (n : ℕ) (odd : Bool) → (n ≡ 16) ⊎ (n ≡ 32) → all_below 37 (λ e. own_row n odd e (row_at n odd e)) ≡ true
unfolding all_below row_at row_of partner offset_of line_of own_row
all_own n true (inl e) = rw e
all_own n true (inr e) = rw e
all_own n false (inl e) = rw e
all_own n false (inr e) = rw e

record Own (n : ℕ) (odd : Bool) (e j : ℕ) : Type 0 where
  low : j < n + 3
  line : line_of n odd j ≡ e

own : (n : ℕ) (odd : Bool) (e j : ℕ) → superblock n ≡ true → e < 37 → row_at n odd e ≡ Some j → Own n odd e j
unfolding own_row
own n odd e j s h k =
    let t : own_row n odd e (row_at n odd e) ≡ true = belows.at (λ i. own_row n odd i (row_at n odd i)) 37 e (all_own n odd (sides n s)) h in
    let p = both (ltb j (n + 3)) (eqb (line_of n odd j) e) (sym (ap (own_row n odd e) k) ∙ t) in
    record { low = ltb-true j (n + 3) p.0; line = eqb-true (line_of n odd j) e p.1 }

-- A present entry of a table is a row of the part that starts at first.
record Present (n : ℕ) (odd : Bool) (first stride e a : ℕ) : Type 0 where
  row : ℕ
  is : a ≡ first + row * stride
  small : e < 37
  here : row_at n odd e ≡ Some row

-- tells the cases apart
abbrev number : Option ℕ → ℕ
number None = 0
number (Some a) = suc a

present : (n : ℕ) (odd : Bool) (first stride e a : ℕ) → place_at (table_of n odd first stride) e ≡ Some a → Present n odd first stride e a
unfolding entry_at placed place_at
present n odd first stride e a h = by (which 36 e)
  where
    found : (p : Option ℕ) → row_at n odd e ≡ p → e < 37 → (placed first stride p).at ≡ Some a → Present n odd first stride e a
    found None k l q = let z : ◌≡◌ {A = ℕ} 0 (suc a) = ap number q in absurd (omega arith)
    found (Some j) k l q =
        let z : suc (first + j * stride) ≡ suc a = ap number q in
        record { row = j; is = omega arith; small = l; here = k }

    by : Which 36 e → Present n odd first stride e a
    by (more l) = found (row_at n odd e) refl (omega arith) (sym (entry n odd first stride e (omega arith)) ∙ h)
    by (less l) = let z : ◌≡◌ {A = ℕ} 0 (suc a) = ap number (sym (pick-false _ (le-ltb e 37 (omega arith))) ∙ h) in absurd (omega arith)

-- two rows of a buffer do not overlap
rows-part : (first stride j k : ℕ) → (j ≡ k → ⊥) → (first + j * stride + stride ≤ first + k * stride) ⊎ (first + k * stride + stride ≤ first + j * stride)
rows-part first stride j k h = by (which j k)
  where
    by : Which j k → (first + j * stride + stride ≤ first + k * stride) ⊎ (first + k * stride + stride ≤ first + j * stride)
    by (less l) = let r = row_fits j k stride l in inl (omega arith)
    by (more l) = let r = row_fits k j stride (distinct l) in inr (omega arith)
      where
        distinct : k ≤ j → k < j
        distinct l = let n : (j ≡ k → ⊥) = h in omega arith

-- The table of a superblock row of tile row t in pass p: an entry that is present stands at a.
abbrev pub Stands : Sizes → (sby tile pass e a : ℕ) → Type 0
Stands s sby tile pass e a = place_at (table_for s sby tile pass) e ≡ Some a

module _ (s : Sizes) (well : well_sizes s ≡ true) where
  -- it is a whole row of the tile row's part
  pub row_within : (sby tile pass e a : ℕ) → in_frame s tile ≡ true → Stands s sby tile pass e a
      → (part_start s (part_of s tile) pass ≤ a) × (a + 2 * s.stride.0 ≤ part_start s (part_of s tile) pass + 70 * s.stride.0)
  unfolding table_for
  row_within sby tile pass e a h k =
      let p = present s.sbsz.0 (odd_row sby) (part_start s (part_of s tile) pass) (2 * s.stride.0) e a k in
      let o = own s.sbsz.0 (odd_row sby) e p.row (fits s well).superblock p.small p.here in
      let r = row_fits p.row 35 (2 * s.stride.0) (low (sides s.sbsz.0 (fits s well).superblock) o.low) in
      (omega (arith, p.is), omega (arith, p.is))
    where
      low : {j : ℕ} → (s.sbsz.0 ≡ 16) ⊎ (s.sbsz.0 ≡ 32) → j < s.sbsz.0 + 3 → j < 35
      low (inl e) l = omega arith
      low (inr e) l = omega arith

  -- inside the listed records
  pub row_listed : (sby tile pass e a : ℕ) → in_frame s tile ≡ true → Stands s sby tile pass e a → a + 2 * s.stride.0 < records s
  row_listed sby tile pass e a h k =
      omega (arith, (row_within sby tile pass e a h k).1, part-listed s (part_of s tile) pass (part-fits s tile (fits s well) (in_frame_lem s tile h)))

  -- two entries of a table stand for two rows
  pub rows-distinct : (sby tile pass e k a b : ℕ) → Stands s sby tile pass e a → Stands s sby tile pass k b → (e ≡ k → ⊥)
      → (a + 2 * s.stride.0 ≤ b) ⊎ (b + 2 * s.stride.0 ≤ a)
  unfolding table_for
  rows-distinct sby tile pass e k a b f g n =
      let p = present s.sbsz.0 (odd_row sby) (part_start s (part_of s tile) pass) (2 * s.stride.0) e a f in
      let q = present s.sbsz.0 (odd_row sby) (part_start s (part_of s tile) pass) (2 * s.stride.0) k b g in
      let o = own s.sbsz.0 (odd_row sby) e p.row (fits s well).superblock p.small p.here in
      let r = own s.sbsz.0 (odd_row sby) k q.row (fits s well).superblock q.small q.here in
      rw (p.is, q.is)
      (rows-part (part_start s (part_of s tile) pass) (2 * s.stride.0) p.row q.row
      (λ e'. n (sym o.line ∙ ap (line_of s.sbsz.0 (odd_row sby)) e' ∙ r.line)))

  -- tile rows with parts of their own lie apart, whatever superblock rows they are at
  pub parts-apart : (pass y t e a z u k b : ℕ) → in_frame s t ≡ true → in_frame s u ≡ true → part_of s t < part_of s u
      → Stands s y t pass e a → Stands s z u pass k b → a + 2 * s.stride.0 ≤ b
  unfolding part_start
  parts-apart pass y t e a z u k b h i l f g =
      omega (arith, (row_within y t pass e a h f).1, (row_within z u pass k b i g).0, row_fits (part_of s t) (part_of s u) s.stride.0 l)

  -- and so do the two passes, where frames are under way at once
  pub passes-apart : (y t e a z u k b : ℕ) → in_frame s t ≡ true → in_frame s u ≡ true → 1 < s.n_frame_threads
      → Stands s y t 1 e a → Stands s z u 2 k b → a + 2 * s.stride.0 ≤ b
  unfolding part_start pass_start
  passes-apart y t e a z u k b h i l f g =
      let two : pass_start s 2 ≡ 70 * s.n_blocks = pick_true 0 (ap (λ (c : Bool). c && true) (lt-ltb 1 _ l)) in
      let one : pass_start s 1 ≡ 0 = pick-false _ (ap (λ (c : Bool). c && false) (lt-ltb 1 _ l)) in
      omega (arith, (row_within y t 1 e a h f).1, (row_within z u 2 k b i g).0, part-fits s t (fits s well) (in_frame_lem s t h))
