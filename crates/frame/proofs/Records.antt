-- The finished record that setup returns always passes the check.
-- Assumes nothing.
use mathlib.Core.Path.{◌≡◌, refl, ap, ◌∙◌}
use mathlib.Core.Bool.{Bool, true, false, ◌&&◌, ◌||◌}
use mathlib.Core.List.{List}
use Prim.Native.Nat.{ℕ, zero, suc, min, ◌*◌, ◌<◌}
use native.Mathlib.Omega.{arith}
use lib.Dec.{ltb, leb, eqb}
use lib.IntN.{ℤ, pos, negsuc, neg_ℤ, nat_abs}
use lib.ListN.{length, get_or, replicate}
use lib.Signed.{lt_z}
use Rattle.vector.specs.Hint.{distance}
use borrow.Author.Tests.{le-leb, lt-ltb, eq-eqb}
use Rattle.ground.specs.Pick.{pick}
use Rattle.ground.specs.Sign.{below, clip3}
use Rattle.ground.proofs.Picks.{and-on, both}
use Rattle.ground.proofs.Signs.{clip3-is, abs-signed}
use Rattle.ground.proofs.Belows.{all_of}
use Rattle.frame.specs.declared.hints.description.Description.{Description}
use Rattle.std.specs.Prelude.{None, Some}
use Rattle.frame.specs.declared.record.Frame.{Frame}
use Rattle.frame.specs.extent.Sizes.{limits, eighths, stride_of, sbsz_of, parts_of, sizes_of, superblock, follows, well_sizes}
use Rattle.frame.specs.hints.Description.{under, flags, setup_answer, hint_at}
use Rattle.frame.specs.hints.Distances.{flag_of, seven, from_current, ref_hint_of, ref_hints, well_hint}
use Rattle.frame.specs.hints.Selection.{selected}
use Rattle.frame.specs.Mfmv.{far, towards, offset, ref_to_ref, mfmv_of, idle, no_mfmv, slot_of, slots, well_cur, well_mfmv}
use Rattle.frame.specs.hints.Selection.{selectable}
use Rattle.frame.specs.Record.{frame_of, no_hint, well_frame}
use Rattle.frame.proofs.hints.Described.{accepted-limits, accepted-flags}
use Rattle.frame.proofs.Mfmvs.{near}
use Rattle.frame.proofs.hints.Selections.{selected-most, five}

-- two tests that hold
and : {s t : Bool} → s ≡ true → t ≡ true → (s && t) ≡ true
and e f = and-on e ∙ f

equal : (n : ℕ) → eqb n n ≡ true
equal n = eq-eqb n n refl

flag-fits : (b : Bool) → leb (flag_of b) 1 ≡ true
flag-fits true = refl
flag-fits false = refl

-- the sizes
sides : (n : ℕ) → superblock (sbsz_of n) ≡ true
unfolding superblock sbsz_of
sides n = by (eqb n 1)
  where
    by : (b : Bool) → (eqb (pick b 32 16) 16 || eqb (pick b 32 16) 32) ≡ true
    by true = refl
    by false = refl

well-sizes : (w h n r t f : ℕ) → limits w h r t f ≡ true → well_sizes (sizes_of w h (sbsz_of n) r t f) ≡ true
unfolding well_sizes follows sizes_of
well-sizes w h n r t f e =
    and (and e (sides n))
    (and (and (and (and (and (equal (eighths w)) (equal (eighths h))) (equal (2 * eighths w))) (equal (2 * eighths h))) (equal (stride_of w)))
    (equal (stride_of w * parts_of r t)))

-- the seven references' hints
seven-all : {A : Type 0} (t : A → Bool) (f : ℕ → A) (d : A) → ((i : ℕ) → t (f i) ≡ true) → (i : ℕ) → i < 7 → t (get_or (seven f) i d) ≡ true
seven-all t f d h zero l = h 0
seven-all t f d h (suc zero) l = h 1
seven-all t f d h (suc (suc zero)) l = h 2
seven-all t f d h (suc (suc (suc zero))) l = h 3
seven-all t f d h (suc (suc (suc (suc zero)))) l = h 4
seven-all t f d h (suc (suc (suc (suc (suc zero))))) l = h 5
seven-all t f d h (suc (suc (suc (suc (suc (suc zero)))))) l = h 6
seven-all t f d h (suc (suc (suc (suc (suc (suc (suc i))))))) l = absurd (omega arith)

clipped : (z : ℤ) → leb (nat_abs (clip3 (neg_ℤ (pos 31)) (pos 31) z)) 31 ≡ true
clipped z =
    let e = ap nat_abs (clip3-is 31 z) ∙ abs-signed (below z) (min (nat_abs z) 31) in
    le-leb (nat_abs (clip3 (negsuc 30) (pos 31) z)) 31 (omega arith)

well-hint : (d : Description) (hint : ℕ) → well_hint (ref_hint_of d hint) ≡ true
unfolding well_hint ref_hint_of
well-hint d hint =
    and (and (flag-fits (lt_z (pos 0) (from_current d hint))) (flag-fits (below (from_current d hint))))
    (clipped (distance d.hint_bits d.current_hint hint))

-- the places for selected references
abs_neg : (z : ℤ) → nat_abs (neg_ℤ z) ≡ nat_abs z
abs_neg (pos zero) = refl
abs_neg (pos (suc n)) = refl
abs_neg (negsuc n) = refl

well-cur : (z : ℤ) (r : ℕ) → well_cur (towards z r) ≡ true
unfolding well_cur towards
well-cur z r = by (far z) refl (leb r 1)
  where
    by : (b : Bool) → far z ≡ b → (s : Bool) → well_cur (pick b None (Some (pick s (neg_ℤ z) z))) ≡ true
    by true e s = refl
    by false e true = let h = near z e in let k = abs_neg z in le-leb (nat_abs (neg_ℤ z)) 31 (omega arith)
    by false e false = le-leb (nat_abs z) 31 (near z e)

offset-fits : (z : ℤ) → ltb (offset z) 32 ≡ true
unfolding offset
offset-fits z = by (below z) (far z) refl
  where
    by : (b f : Bool) → far z ≡ f → ltb (pick (b || f) 0 (nat_abs z)) 32 ≡ true
    by true f e = refl
    by false true e = refl
    by false false e = let h = near z e in lt-ltb (nat_abs z) 32 (omega arith)

well-offsets : (d : Description) (r : ℕ) (b : Bool) → under (pick b (replicate 7 0) (seven (ref_to_ref d r))) 32 ≡ true
unfolding under ref_to_ref
well-offsets d r true = all_of _ 7 (seven-all (λ n. ltb n 32) (λ _. 0) 0 (λ _. refl))
well-offsets d r false = all_of _ 7 (seven-all (λ n. ltb n 32) (ref_to_ref d r) 0 (λ m. offset-fits _))

well-mfmv : (d : Description) (r : ℕ) → selectable r ≡ true → well_mfmv (mfmv_of d r) ≡ true
unfolding well_mfmv mfmv_of
well-mfmv d r h = and (and h (well-cur _ r)) (well-offsets d r (far (from_current d (hint_at d r))))

well-idle : well_mfmv idle ≡ true
unfolding well_mfmv selectable well_cur under
well-idle = all_of (λ i. ltb (get_or (replicate 7 0) i 0) 32) 7 (seven-all (λ n. ltb n 32) (λ _. 0) 0 (λ _. refl))

well-slot : (d : Description) (present : List ℕ) (i : ℕ) → well_mfmv (slot_of d (selected d present) i) ≡ true
unfolding slot_of
well-slot d present i = by (ltb i (length (selected d present)))
  where
    by : (b : Bool) → well_mfmv (pick b (mfmv_of d (get_or (selected d present) i 0)) idle) ≡ true
    by true = well-mfmv d (get_or (selected d present) i 0) (five d present i)
    by false = well-idle

well-slots : (d : Description) (present : List ℕ) (i : ℕ) → i < 3 → well_mfmv (get_or (slots d (selected d present)) i no_mfmv) ≡ true
well-slots d present zero l = well-slot d present 0
well-slots d present (suc zero) l = well-slot d present 1
well-slots d present (suc (suc zero)) l = well-slot d present 2
well-slots d present (suc (suc (suc i))) l = absurd (omega arith)

temporal-fits : (d : Description) (present : List ℕ) → flags d present ≡ true → leb d.temporal 1 ≡ true
unfolding flags
temporal-fits d present e = (both (leb d.sb128 1) (leb d.temporal 1) (both _ (under present 2) e).0).1

-- what setup returns where it accepts passes the check
pub setup-passes : (d : Description) (present : List ℕ) → setup_answer d present ≡ 0 → well_frame (frame_of d present) ≡ true
unfolding well_frame frame_of ref_hints
setup-passes d present e =
    and
    (and
    (and
    (and
    (and (well-sizes d.width d.height d.sb128 d.tile_rows d.tile_threads d.frame_threads (accepted-limits d present e))
    (flag-fits (ltb 0 (length (selected d present)))))
    (temporal-fits d present (accepted-flags d present e)))
    (le-leb (length (selected d present)) 3 (selected-most d present)))
    (all_of _ 7 (seven-all well_hint (λ i. ref_hint_of d (hint_at d i)) no_hint (λ i. well-hint d (hint_at d i)))))
    (all_of _ 3 (well-slots d present))

-- what a check that passes tells of the sizes, and of the count of selected references
pub frame-sizes : (f : Frame) → well_frame f ≡ true → well_sizes f.sizes ≡ true
unfolding well_frame
frame-sizes f e = (both _ _ (both _ _ (both _ _ (both _ _ (both _ _ e).0).0).0).0).0
