-- The table of a tile, laid in parts: absent entries everywhere, over them the superblock row's own rows, over those the rows above.
-- Assumes nothing.
use mathlib.Core.Path.{◌≡◌, refl, sym, ap, ◌∙◌}
use mathlib.Core.Logic.{◌⊎◌, inl, inr}
use mathlib.Core.Bool.{Bool, true, false}
use mathlib.Core.List.{List, [], ◌∷◌}
use Prim.Native.Nat.{ℕ, zero, suc, ◌+◌, ◌-◌, ◌*◌, ◌≤◌, ◌<◌, min}
use native.Mathlib.Nat.{add-zero, zero-add, add-mul}
use native.Mathlib.Numerals.{add-one}
use native.Mathlib.Omega.{arith}
use lib.ListN.{length, set, length-set}
use lib.Seq.{set-set, set_comm}
use Rattle.ground.specs.Put.{put, copies}
use Rattle.ground.specs.Little.{four_bytes, fours}
use Rattle.ground.proofs.Puts.{put-append, put-length, copies_length}
use Rattle.frame.specs.declared.extent.sizes.Sizes.{Sizes}
use Rattle.frame.specs.extent.Sizes.{superblock, part_of}
use Rattle.ground.specs.Tab.{tab}
use Rattle.rows.specs.Table.{none, offset_of, partner, row_of, row_at, placed, entry_at, table_of}
use Rattle.rows.specs.declared.setup.TileRange.{TileRange}
use Rattle.rows.specs.declared.setup.SbRow.{SbRow}
use Rattle.rows.specs.Setup.{part_start, odd_row, table_for, cut_to, tile_of}
use Rattle.rows.proofs.Tabled.{sides, off-fits}
use Rattle.layout.specs.FrameBytes.{sizes_at, frame_at}
use Rattle.layout.specs.TileBytes.{absent_mark, place_number, entry_bytes, entry_number, bound_numbers, tile_bytes}
use Rattle.layout.proofs.Pieces.{as_one}

-- numbers laid one behind the other: one more, and none left
pub rows_on : (s t : List ℕ) (f : ℕ → ℕ) (at i n : ℕ) → i < n → t ≡ put s (4 * (at + i)) (four_bytes (f i))
    → put t (4 * (at + (i + 1))) (fours (tab f (i + 1) (n - (i + 1)))) ≡ put s (4 * (at + i)) (fours (tab f i (n - i)))
unfolding fours tab
rows_on s t f at i n h q =
    let k : n - i ≡ suc (n - suc i) = omega arith in
    let p : 4 * (at + (i + 1)) ≡ 4 * (at + i) + 4 = omega arith in
    rw (p, add-one i, k, q) (sym (put-append s (4 * (at + i)) (four_bytes (f i)) (fours (tab f (suc i) (n - suc i)))))

pub rows-done : (s : List ℕ) (at : ℕ) (f : ℕ → ℕ) (i n : ℕ) → n ≤ i → put s at (fours (tab f i (n - i))) ≡ s
unfolding fours tab put
rows-done s at f i n h = let k : n - i ≡ 0 = omega arith in rw k

-- what is laid over a part that was laid is laid over it before
set_past : (l : List ℕ) (a j : ℕ) (xs : List ℕ) (y : ℕ) → j < a → set (put l a xs) j y ≡ put (set l j y) a xs
unfolding put
set_past l a j [] y h = refl
set_past l a j (x ∷ xs) y h =
    set_past (set l a x) (suc a) j xs y (omega arith) ∙ ap (λ (m : List ℕ). put m (suc a) xs) (set_comm l a j x y (λ e. absurd (omega arith)))

set-over : (l : List ℕ) (a i : ℕ) (xs : List ℕ) (y : ℕ) → i < length xs → set (put l a xs) (a + i) y ≡ put l a (set xs i y)
unfolding put
set-over l a i [] y h = absurd (omega arith)
set-over l a zero (x ∷ xs) y h =
    rw add-zero (set_past (set l a x) (suc a) a xs y (omega arith) ∙ ap (λ (m : List ℕ). put m (suc a) xs) (set-set l a x y))
set-over l a (suc i) (x ∷ xs) y h =
    let k : a + suc i ≡ suc a + i = omega arith in
    rw k (set-over (set l a x) (suc a) i xs y (omega arith))

put-over : (l : List ℕ) (a : ℕ) (xs : List ℕ) (i : ℕ) (ys : List ℕ) → i + length ys ≤ length xs → put (put l a xs) (a + i) ys ≡ put l a (put xs i ys)
unfolding put
put-over l a xs i [] h = refl
put-over l a xs i (y ∷ ys) h =
    let k : suc (a + i) ≡ a + suc i = omega arith in
    rw (set-over l a i xs y (omega arith), k) (put-over l a (set xs i y) (suc i) ys (rw length-set (omega arith)))

over : (l xs : List ℕ) (i : ℕ) (ys : List ℕ) → i + length ys ≤ length xs → put (put l 0 xs) i ys ≡ put l 0 (put xs i ys)
over l xs i ys h = ap (λ (k : ℕ). put (put l 0 xs) k ys) (sym (zero-add i)) ∙ put-over l 0 xs i ys h

rows_long : (f : ℕ → ℕ) (i n : ℕ) → length (fours (tab f i n)) ≡ 4 * n
unfolding fours tab
rows_long f i zero = refl
rows_long f i (suc n) = omega (arith, rows_long f (suc i) n)

-- three entries, every other one
abbrev three : List ℕ → (at a b c : ℕ) → List ℕ
three s at a b c = put (put (put s (4 * at) (four_bytes a)) (4 * (at + 2)) (four_bytes b)) (4 * (at + 4)) (four_bytes c)

three-over : (l xs : List ℕ) (at a b c : ℕ) → 4 * at + 20 ≤ length xs → three (put l 0 xs) at a b c ≡ put l 0 (three xs at a b c)
three-over l xs at a b c h =
    let x = put xs (4 * at) (four_bytes a) in
    let y = put x (4 * (at + 2)) (four_bytes b) in
    let p = put-length xs (4 * at) (four_bytes a) in
    let q = put-length x (4 * (at + 2)) (four_bytes b) in
    rw (over l xs (4 * at) (four_bytes a) (omega arith), over l x (4 * (at + 2)) (four_bytes b) (omega arith))
    (over l y (4 * (at + 4)) (four_bytes c) (omega arith))

abbrev blank : List ℕ
blank = copies 37 (entry_bytes none)

abbrev own : (n off first stride : ℕ) → List ℕ → List ℕ
own n off first stride s = put s (4 * (off + 5)) (fours (tab (λ i. first + i * stride) 0 n))

-- the bytes of the table, in each of the four cases
odd-bytes : (n first stride a b c x y z : ℕ) → (n ≡ 16) ⊎ (n ≡ 32)
    → a ≡ first + n * stride → b ≡ first + (n + 1) * stride → c ≡ first + (n + 2) * stride
    → x ≡ first + (n - 5) * stride → y ≡ first + (n - 3) * stride → z ≡ first + (n - 1) * stride
    → three (three (own n (offset_of n true) first stride blank) (offset_of n true + n) a b c) (offset_of n true) x y z
    ≡ fours (tab (entry_number (table_of n true first stride)) 0 37)
unfolding put copies fours tab offset_of partner row_of row_at placed entry_at table_of place_number entry_number
odd-bytes n first stride a b c x y z (inl e) ea eb ec ex ey ez = rw (ea, eb, ec, ex, ey, ez, e)
odd-bytes n first stride a b c x y z (inr e) ea eb ec ex ey ez = rw (ea, eb, ec, ex, ey, ez, e)

even-bytes : (n first stride a b c : ℕ) → (n ≡ 16) ⊎ (n ≡ 32)
    → a ≡ first + n * stride → b ≡ first + (n + 1) * stride → c ≡ first + (n + 2) * stride
    → three (own n (offset_of n false) first stride blank) (offset_of n false) a b c
    ≡ fours (tab (entry_number (table_of n false first stride)) 0 37)
unfolding put copies fours tab offset_of partner row_of row_at placed entry_at table_of place_number entry_number
even-bytes n first stride a b c (inl e) ea eb ec = rw (ea, eb, ec, e)
even-bytes n first stride a b c (inr e) ea eb ec = rw (ea, eb, ec, e)

-- the last rows of a superblock row
pub record Ends (n stride : ℕ) : Type 0 where
  pub five : 5 ≤ n
  pub third : (n - 5) * stride + 2 * stride ≡ (n - 3) * stride
  pub last : (n - 5) * stride + 4 * stride ≡ (n - 1) * stride
  pub fits : (n - 1) * stride + stride ≡ n * stride

pub ends : (n stride : ℕ) → superblock n ≡ true → Ends n stride
ends n stride e = by (sides n e)
  where
    by : (n ≡ 16) ⊎ (n ≡ 32) → Ends n stride
    by (inl h) = rw h (record { five = omega arith; third = omega arith; last = omega arith; fits = omega arith })
    by (inr h) = rw h (record { five = omega arith; third = omega arith; last = omega arith; fits = omega arith })

-- the seam: what the callees leave, put together
module _ (s : List ℕ) (n first stride : ℕ) (sb : superblock n ≡ true) where
  own-laid : (odd : Bool) → own n (offset_of n odd) first stride (put s 0 blank) ≡ put s 0 (own n (offset_of n odd) first stride blank)
  own-laid odd =
      over s blank (4 * (offset_of n odd + 5)) (fours (tab (λ i. first + i * stride) 0 n))
      (omega (arith, off-fits n odd sb, rows_long (λ i. first + i * stride) 0 n, copies_length 37 (entry_bytes none)))

  own-long : (odd : Bool) → length (own n (offset_of n odd) first stride blank) ≡ 148
  own-long odd = put-length blank (4 * (offset_of n odd + 5)) (fours (tab (λ i. first + i * stride) 0 n)) ∙ copies_length 37 (entry_bytes none)

  pub even-table : (odd : Bool) {off : ℕ} {t u v : List ℕ} → odd ≡ false → off ≡ offset_of n odd → t ≡ put s 0 blank → u ≡ own n off first stride t
      → v ≡ three u off (first + n * stride) (first + n * stride + stride) (first + n * stride + 2 * stride)
      → v ≡ put s 0 (fours (tab (entry_number (table_of n odd first stride)) 0 37))
  even-table odd o e f g h =
      let xs = own n (offset_of n false) first stride blank in
      rw (h, g, f, e, o, own-laid false)
      (three-over s xs (offset_of n false) (first + n * stride) (first + n * stride + stride) (first + n * stride + 2 * stride)
      (omega (arith, off-fits n false sb, own-long false))
      ∙ ap (put s 0) (even-bytes n first stride _ _ _ (sides n sb) refl (omega (arith, add-mul n 1 stride)) (omega (arith, add-mul n 2 stride))))

  pub odd-table : (odd : Bool) {off : ℕ} {t u v w : List ℕ} → odd ≡ true → off ≡ offset_of n odd → t ≡ put s 0 blank → u ≡ own n off first stride t
      → v ≡ three u (off + n) (first + n * stride) (first + n * stride + stride) (first + n * stride + 2 * stride)
      → w ≡ three v off (first + (n - 5) * stride) (first + (n - 5) * stride + 2 * stride) (first + (n - 5) * stride + 2 * (2 * stride))
      → w ≡ put s 0 (fours (tab (entry_number (table_of n odd first stride)) 0 37))
  odd-table odd o e f g h k =
      let off = offset_of n true in
      let r = first + n * stride in
      let q = first + (n - 5) * stride in
      let xs = own n off first stride blank in
      let ys = three xs (off + n) r (r + stride) (r + 2 * stride) in
      let m = ends n stride sb in
      let long : length ys ≡ 148 =
      put-length _ (4 * (off + n + 4)) (four_bytes (r + 2 * stride))
      ∙ put-length _ (4 * (off + n + 2)) (four_bytes (r + stride))
      ∙ put-length xs (4 * (off + n)) (four_bytes r)
      ∙ own-long true in
      rw (k, h, g, f, e, o, own-laid true, three-over s xs (off + n) r (r + stride) (r + 2 * stride) (omega (arith, off-fits n true sb, own-long true)))
      (three-over s ys off q (q + 2 * stride) (q + 2 * (2 * stride)) (omega (arith, off-fits n true sb))
      ∙ ap (put s 0)
      (odd-bytes n first stride _ _ _ _ _ _ (sides n sb) refl (omega (arith, add-mul n 1 stride)) (omega (arith, add-mul n 2 stride)) refl
      (omega (arith, m.third))
      (omega (arith, m.last))))

-- a tile: its table, and its bounds behind it
pub tile-laid : (s l : List ℕ) (r : SbRow) {z : Sizes} {long first proj : ℕ} {c d : TileRange} {t u : List ℕ}
    → z ≡ sizes_at l → long ≡ 2 * z.stride.0 → first ≡ part_start z (part_of z r.tile) r.pass
    → t ≡ put s 0 (fours (tab (entry_number (table_of z.sbsz.0 (odd_row r.sby) first long)) 0 37))
    → proj ≡ 16 * (part_of z r.tile * z.stride.0) → c ≡ cut_to z.iw4.0 r.col → d ≡ cut_to z.ih4.0 r.row
    → u ≡ put t 148 (fours (proj ∷ min c.start.0 absent_mark ∷ c.end.0 ∷ min d.start.0 absent_mark ∷ d.end.0 ∷ []))
    → u ≡ put s 0 (tile_bytes (tile_of (frame_at l) r))
unfolding frame_at tile_of table_for tile_bytes bound_numbers tab fours
tile-laid s l r e j f g h k m n =
    let made = tile_of (frame_at l) r in
    rw (n, g, j, f, h, k, m, e) (as_one s 0 (fours (tab (entry_number made.rows) 0 37)) (fours (bound_numbers made) ∷ []))
