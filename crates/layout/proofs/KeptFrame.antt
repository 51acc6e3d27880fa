-- A frame record that was laid down, and read again: what setup made comes back whole.
-- Assumes nothing.
use Rattle.std.specs.Prelude.{Option, None, Some}
use mathlib.Core.Path.{◌≡◌, refl, ap, ◌∙◌}
use mathlib.Core.Logic.{◌⊎◌, inl, inr}
use mathlib.Core.Bool.{Bool, true, false, ◌&&◌}
use mathlib.Core.List.{List, [], ◌∷◌}
use Prim.Native.Nat.{ℕ, zero, suc, ◌+◌, ◌*◌, ◌/◌, ◌%◌, ◌^◌, ◌≤◌, ◌<◌}
use native.Mathlib.Nat.{mod-eq_of_lt}
use native.Mathlib.Omega.{arith}
use lib.Dec.{ltb, leb}
use lib.IntN.{ℤ, pos, negsuc, nat_abs}
use lib.ListN.{length, get_or, replicate}
use lib.Signed.{mag}
use borrow.Author.Tests.{leb-true, ne_eqb}
use Rattle.ground.specs.Pick.{pick}
use Rattle.ground.specs.Sign.{eq_z}
use Rattle.ground.specs.Below.{all_below}
use Rattle.ground.specs.Put.{put}
use Rattle.ground.specs.Twos.{twos16, bits16}
use Rattle.ground.specs.Little.{fours}
use Rattle.ground.proofs.Picks.{both}
use Rattle.ground.proofs.Belows as belows
use Rattle.ground.proofs.Littles.{four-whole}
use Rattle.frame.specs.declared.hints.description.Description.{Description}
use Rattle.frame.specs.declared.extent.sizes.Sizes.{Sizes}
use Rattle.frame.specs.declared.hints.distances.RefHint.{RefHint}
use Rattle.frame.specs.declared.mfmv.Mfmv.{Mfmv}
use Rattle.frame.specs.declared.record.Frame.{Frame}
use Rattle.frame.specs.hints.Description.{under, setup_answer, hint_at}
use Rattle.frame.specs.hints.Distances.{seven, ref_hints, from_current, well_hint}
use Rattle.frame.specs.hints.Selection.{selected}
use Rattle.frame.specs.Mfmv.{far, towards, ref_to_ref, mfmv_of, idle, no_mfmv, slot_of, slots, well_cur, well_mfmv}
use Rattle.frame.specs.hints.Selection.{selectable}
use Rattle.frame.specs.extent.Sizes.{well_sizes}
use Rattle.frame.specs.Record.{frame_of, no_hint, well_frame}
use Rattle.frame.proofs.extent.Sizing.{Fits, fits, eighths-most, stride_most, blocks-most}
use Rattle.frame.proofs.Records.{setup-passes, frame-sizes}
use Rattle.ground.specs.Tab.{tab}
use Rattle.rows.proofs.Tabled.{sides}
use Rattle.layout.specs.FrameBytes.{sizes_at, ref_hint_at, ref_hints_at, skipped_mark, cur_of, offsets_at, mfmv_at, frame_at, size_numbers, hint_bytes, hints_bytes, cur_number, mfmv_bytes, mfmvs_bytes, frame_bytes}
use Rattle.ground.proofs.Tabs.{tab-all}
use Rattle.layout.proofs.Places.{Agree, four_same, half-same, laid-agrees, half-read}

-- Bytes that agree hold the same record.
module _ (l m : List ℕ) (n : ℕ) (agree : Agree l m n) where
  hint-same : (k : ℕ) → k + 4 ≤ n → ref_hint_at l k ≡ ref_hint_at m k
  unfolding ref_hint_at
  hint-same k h = rw (agree k (omega arith), agree (k + 1) (omega arith), half-same l m n agree (k + 2) (omega arith))

  offsets-same : (k : ℕ) → k + 7 ≤ n → offsets_at l k ≡ offsets_at m k
  unfolding offsets_at
  offsets-same k h =
      rw (
        agree k (omega arith),
        agree (k + 1) (omega arith),
        agree (k + 2) (omega arith),
        agree (k + 3) (omega arith),
        agree (k + 4) (omega arith),
        agree (k + 5) (omega arith),
        agree (k + 6) (omega arith),
      )

  mfmv-same : (k : ℕ) → k + 10 ≤ n → mfmv_at l k ≡ mfmv_at m k
  unfolding mfmv_at
  mfmv-same k h = rw (agree k (omega arith), half-same l m n agree (k + 1) (omega arith), offsets-same (k + 3) (omega arith))

frame_same : (l m : List ℕ) → Agree l m 109 → frame_at l ≡ frame_at m
unfolding frame_at sizes_at ref_hints_at
frame_same l m a =
    let f = four_same l m 109 a in
    let h = hint-same l m 109 a in
    let s = mfmv-same l m 109 a in
    rw (
      f 0 (omega arith),
      f 4 (omega arith),
      f 8 (omega arith),
      f 12 (omega arith),
      f 16 (omega arith),
      f 20 (omega arith),
      f 24 (omega arith),
      f 28 (omega arith),
      f 32 (omega arith),
      f 36 (omega arith),
      f 40 (omega arith),
      f 44 (omega arith),
      a 48 (omega arith),
      a 49 (omega arith),
      a 50 (omega arith),
      h 51 (omega arith),
      h 55 (omega arith),
      h 59 (omega arith),
      h 63 (omega arith),
      h 67 (omega arith),
      h 71 (omega arith),
      h 75 (omega arith),
      s 79 (omega arith),
      s 89 (omega arith),
      s 99 (omega arith),
    )

-- What the bytes of a record can hold: numbers of the sizes of four bytes, a count of one, distances within 31.
record Narrow (s : Sizes) : Type 0 where
  width : s.width < 2 ^ 32
  height : s.height < 2 ^ 32
  iw4 : s.iw4.0 < 2 ^ 32
  ih4 : s.ih4.0 < 2 ^ 32
  iw8 : s.iw8.0 < 2 ^ 32
  ih8 : s.ih8.0 < 2 ^ 32
  sbsz : s.sbsz.0 < 2 ^ 32
  stride : s.stride.0 < 2 ^ 32
  rows : s.tile_rows < 2 ^ 32
  blocks : s.n_blocks < 2 ^ 32
  tiles : s.n_tile_threads < 2 ^ 32
  frames : s.n_frame_threads < 2 ^ 32

record HeldMfmv (m : Mfmv) : Type 0 where
  cur : well_cur m.ref2cur ≡ true
  offsets : length m.ref2ref ≡ 7

pub record Holdable (f : Frame) : Type 0 where
  sizes : Narrow f.sizes
  count : f.n_mfmvs < 256
  hints : length f.refs ≡ 7
  slots : length f.mfmvs ≡ 3
  hint : (i : ℕ) → i < 7 → nat_abs (get_or f.refs i no_hint).pocdiff ≤ 31
  slot : (i : ℕ) → i < 3 → HeldMfmv (get_or f.mfmvs i no_mfmv)

-- a magnitude to 31 fits two bytes, and is not the mark
small : (z : ℤ) → nat_abs z ≤ 31 → mag z < 2 ^ 15
small (pos n) h = omega arith
small (negsuc n) h = omega arith

unmarked : (z : ℤ) → nat_abs z ≤ 31 → eq_z z skipped_mark ≡ false
unfolding eq_z
unmarked (pos n) h = refl
unmarked (negsuc n) h = ne_eqb n 32767 (λ e. absurd (omega arith))

-- the two bytes of a signed number, as they are read
abbrev read_half : ℤ → ℤ
read_half z = twos16 (bits16 z % 256 + 256 * (bits16 z / 256))

cur-read : (c : Option ℤ) → well_cur c ≡ true → cur_of (read_half (cur_number c)) ≡ c
unfolding cur_of cur_number well_cur eq_z
cur-read None h = refl
cur-read (Some z) h =
    let k = leb-true (nat_abs z) 31 h in
    rw (half-read z (small z k), unmarked z k)

hint-read : (h : RefHint) → nat_abs h.pocdiff ≤ 31
    → ◌≡◌ {A = RefHint} (record { sign_bias = h.sign_bias; mfmv_sign = h.mfmv_sign; pocdiff = read_half h.pocdiff }) h
hint-read h k = ap (λ (z : ℤ). record { sign_bias = h.sign_bias; mfmv_sign = h.mfmv_sign; pocdiff = z }) (half-read h.pocdiff (small h.pocdiff k))

mfmv-read : (m : Mfmv) → HeldMfmv m
    → ◌≡◌ {A = Mfmv} (record { reference = m.reference; ref2cur = cur_of (read_half (cur_number m.ref2cur)); ref2ref = tab (λ i. get_or m.ref2ref i 0) 0 7 }) m
mfmv-read m h =
    λ k. record { reference = m.reference; ref2cur = cur-read m.ref2cur h.cur k; ref2ref = tab-all 0 m.ref2ref 7 h.offsets k }

module _ (f : Frame) (h : Holdable f) where
  sizes-read : sizes_at (frame_bytes f) ≡ f.sizes
  unfolding sizes_at frame_bytes size_numbers fours
  sizes-read =
      let n = h.sizes in
      let s = f.sizes in
      λ k.
      record {
        width = four-whole s.width n.width k;
        height = four-whole s.height n.height k;
        iw4 = record { 0 = four-whole s.iw4.0 n.iw4 k };
        ih4 = record { 0 = four-whole s.ih4.0 n.ih4 k };
        iw8 = record { 0 = four-whole s.iw8.0 n.iw8 k };
        ih8 = record { 0 = four-whole s.ih8.0 n.ih8 k };
        sbsz = record { 0 = four-whole s.sbsz.0 n.sbsz k };
        stride = record { 0 = four-whole s.stride.0 n.stride k };
        tile_rows = four-whole s.tile_rows n.rows k;
        n_blocks = four-whole s.n_blocks n.blocks k;
        n_tile_threads = four-whole s.n_tile_threads n.tiles k;
        n_frame_threads = four-whole s.n_frame_threads n.frames k;
      }

  hints-read : ref_hints_at (frame_bytes f) ≡ f.refs
  unfolding ref_hints_at ref_hint_at frame_bytes size_numbers fours hints_bytes hint_bytes tab
  hints-read =
      let r = f.refs in
      let e : (i : ℕ) → i < 7 → _ = λ i l. hint-read (get_or r i no_hint) (h.hint i l) in
      rw (e 0 (omega arith), e 1 (omega arith), e 2 (omega arith), e 3 (omega arith), e 4 (omega arith), e 5 (omega arith), e 6 (omega arith))
      (tab-all no_hint r 7 h.hints)

  slots_read : ◌≡◌ {A = List Mfmv} (mfmv_at (frame_bytes f) 79 ∷ mfmv_at (frame_bytes f) 89 ∷ mfmv_at (frame_bytes f) 99 ∷ []) f.mfmvs
  unfolding mfmv_at offsets_at frame_bytes size_numbers fours hints_bytes hint_bytes mfmvs_bytes mfmv_bytes tab
  slots_read =
      let ms = f.mfmvs in
      let e : (i : ℕ) → i < 3 → _ = λ i l. mfmv-read (get_or ms i no_mfmv) (h.slot i l) in
      rw (e 0 (omega arith), e 1 (omega arith), e 2 (omega arith)) (tab-all no_mfmv ms 3 h.slots)

  frame-read : frame_at (frame_bytes f) ≡ f
  unfolding frame_at frame_bytes size_numbers fours
  frame-read =
      let e : f.n_mfmvs % 256 ≡ f.n_mfmvs = mod-eq_of_lt h.count in
      λ k.
      record {
        sizes = sizes-read k;
        use_ref_frame_mvs = f.use_ref_frame_mvs;
        temporal = f.temporal;
        refs = hints-read k;
        n_mfmvs = e k;
        mfmvs = slots_read k;
      }

  long : length (frame_bytes f) ≡ 109
  unfolding frame_bytes size_numbers fours hints_bytes hint_bytes mfmvs_bytes mfmv_bytes offsets_at
  long = refl

  pub frame_back : (l : List ℕ) → 109 ≤ length l → frame_at (put l 0 (frame_bytes f)) ≡ f
  frame_back l n = frame_same (put l 0 (frame_bytes f)) (frame_bytes f) (laid-agrees l (frame_bytes f) 109 long n) ∙ frame-read

-- What setup returns where it accepts is such a record.
narrow : (s : Sizes) → Fits s → Narrow s
narrow s f =
    let a = eighths-most s.width f.limits.width.fits in
    let b = eighths-most s.height f.limits.height.fits in
    let d = stride_most s.width f.limits.width.fits in
    let e = blocks-most s.width s.tile_rows s.n_tile_threads f.limits.width.fits f.limits.rows in
    record {
      width = omega (arith, f.limits.width.fits);
      height = omega (arith, f.limits.height.fits);
      iw4 = omega (arith, f.iw4);
      ih4 = omega (arith, f.ih4);
      iw8 = omega (arith, f.iw8);
      ih8 = omega (arith, f.ih8);
      sbsz = side (sides s.sbsz.0 f.superblock);
      stride = omega (arith, f.stride);
      rows = omega (arith, f.limits.rows.fits);
      blocks = omega (arith, f.blocks);
      tiles = omega (arith, f.limits.tiles.fits);
      frames = omega (arith, f.limits.frames.fits);
    }
  where
    side : (s.sbsz.0 ≡ 16) ⊎ (s.sbsz.0 ≡ 32) → s.sbsz.0 < 2 ^ 32
    side (inl e) = omega arith
    side (inr e) = omega arith

offsets-long : (d : Description) (xs : List ℕ) (i : ℕ) → length (slot_of d xs i).ref2ref ≡ 7
unfolding slot_of mfmv_of
offsets-long d xs i = by (ltb i (length xs)) (far (from_current d (hint_at d (get_or xs i 0))))
  where
    by : (b c : Bool) → length (pick b (record { reference = get_or xs i 0; ref2cur = towards (from_current d (hint_at d (get_or xs i 0))) (get_or xs i 0); ref2ref = pick c (replicate 7 0) (seven (ref_to_ref d (get_or xs i 0))) }) idle).ref2ref ≡ 7
    by true true = refl
    by true false = refl
    by false c = refl

hint-well : (h : RefHint) → well_hint h ≡ true → nat_abs h.pocdiff ≤ 31
unfolding well_hint
hint-well h e =
    leb-true (nat_abs h.pocdiff) 31 (both (leb h.sign_bias 1 && leb h.mfmv_sign 1) (leb (nat_abs h.pocdiff) 31) e).1

cur-well : (m : Mfmv) → well_mfmv m ≡ true → well_cur m.ref2cur ≡ true
unfolding well_mfmv
cur-well m e =
    let p = both (selectable m.reference && well_cur m.ref2cur) (under m.ref2ref 32) e in
    (both (selectable m.reference) (well_cur m.ref2cur) p.0).1

record Parts (f : Frame) : Type 0 where
  sizes : well_sizes f.sizes ≡ true
  count : f.n_mfmvs ≤ 3
  hints : (i : ℕ) → i < 7 → well_hint (get_or f.refs i no_hint) ≡ true
  slots : (i : ℕ) → i < 3 → well_mfmv (get_or f.mfmvs i no_mfmv) ≡ true

parts : (f : Frame) → well_frame f ≡ true → Parts f
unfolding well_frame
parts f e =
    let flags = well_sizes f.sizes && leb f.use_ref_frame_mvs 1 && leb f.temporal 1 in
    let hinted : ℕ → Bool = λ i. well_hint (get_or f.refs i no_hint) in
    let placed : ℕ → Bool = λ i. well_mfmv (get_or f.mfmvs i no_mfmv) in
    let p = both (flags && leb f.n_mfmvs 3 && all_below 7 hinted) (all_below 3 placed) e in
    let q = both (flags && leb f.n_mfmvs 3) (all_below 7 hinted) p.0 in
    let r = both flags (leb f.n_mfmvs 3) q.0 in
    record {
      sizes = frame-sizes f e;
      count = leb-true f.n_mfmvs 3 r.1;
      hints = λ i l. belows.at hinted 7 i q.1 l;
      slots = λ i l. belows.at placed 3 i p.1 l;
    }

pub setup-holdable : (d : Description) (present : List ℕ) → setup_answer d present ≡ 0 → Holdable (frame_of d present)
unfolding frame_of ref_hints
setup-holdable d present z =
    let f = frame_of d present in
    let w = parts f (setup-passes d present z) in
    let long : (i : ℕ) → i < 3 → length (get_or f.mfmvs i no_mfmv).ref2ref ≡ 7 = by in
    record {
      sizes = narrow f.sizes (fits f.sizes w.sizes);
      count = omega (arith, w.count);
      hints = refl;
      slots = refl;
      hint = λ i l. hint-well _ (w.hints i l);
      slot = λ i l. record { cur = cur-well _ (w.slots i l); offsets = long i l };
    }
  where
    by : (i : ℕ) → i < 3 → length (get_or (slots d (selected d present)) i no_mfmv).ref2ref ≡ 7
    by zero l = offsets-long d (selected d present) 0
    by (suc zero) l = offsets-long d (selected d present) 1
    by (suc (suc zero)) l = offsets-long d (selected d present) 2
    by (suc (suc (suc i))) l = absurd (omega arith)
