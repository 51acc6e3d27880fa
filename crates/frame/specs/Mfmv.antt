-- A projected reference: refToCur and refOffset of the projection process (7.9.2).
use Rattle.std.specs.Prelude.{ℕ, Bool, true, ◌&&◌, ◌||◌, List, [], ◌∷◌, ltb, leb, Option, None, Some, ℤ, pos, neg_ℤ, nat_abs, length, get_or, replicate}
use Rattle.ground.specs.Pick.{pick}
use Rattle.ground.specs.Sign.{below}
use Rattle.vector.specs.Hint.{distance}
use Rattle.frame.specs.declared.hints.description.Description.{Description}
use Rattle.frame.specs.declared.hints.select.Selection.{Selection}
use Rattle.frame.specs.declared.mfmv.Mfmv.{Mfmv}
use Rattle.frame.specs.hints.Description.{under, hint_at, held_at}
use Rattle.frame.specs.hints.Distances.{seven, from_current}
use Rattle.frame.specs.hints.Selection.{last2_frame, selectable}

-- MAX_FRAME_DISTANCE: cells of a reference further off are never projected
unfoldable pub far : ℤ → Bool
far z = ltb 31 (nat_abs z)

-- refToCur * dst_sign, dst_sign being -1 for LAST and LAST2 and 1 for the others
unfoldable pub towards : ℤ → ℕ → Option ℤ
towards refToCur r = pick (far refToCur) None (Some (pick (leb r last2_frame) (neg_ℤ refToCur) refToCur))

-- refOffset of the reference's own reference m, where it is 0..31; else 0
unfoldable pub offset : ℤ → ℕ
offset z = pick (below z || far z) 0 (nat_abs z)

unfoldable pub ref_to_ref : Description → ℕ → ℕ → ℕ
ref_to_ref d r m = offset (distance d.hint_bits (hint_at d r) (held_at d r m))

unfoldable pub mfmv_of : Description → ℕ → Mfmv
mfmv_of d r =
    record {
      reference = r;
      ref2cur = towards (from_current d (hint_at d r)) r;
      ref2ref = pick (far (from_current d (hint_at d r))) (replicate 7 0) (seven (ref_to_ref d r));
    }

-- a place that nothing is selected for
abbrev pub idle : Mfmv
idle = record { reference = 0; ref2cur = Some (pos 0); ref2ref = replicate 7 0 }

-- what a read past the record's places would give
abbrev pub no_mfmv : Mfmv
no_mfmv = record { reference = 0; ref2cur = None; ref2ref = [] }

-- place i of a selection
unfoldable pub slot_of : Description → List ℕ → ℕ → Mfmv
slot_of d xs i = pick (ltb i (length xs)) (mfmv_of d (get_or xs i 0)) idle

-- the same, as the code holds a selection
abbrev pub slot_in : Description → Selection → ℕ → Mfmv
slot_in d s i = pick (ltb i s.n) (mfmv_of d (get_or s.refs i 0)) idle

abbrev pub slots : Description → List ℕ → List Mfmv
slots d xs = slot_of d xs 0 ∷ slot_of d xs 1 ∷ slot_of d xs 2 ∷ []

-- values that setup can give, each field for itself: one of the five references, a distance to 31 either way or skipped, distances to 31
unfoldable pub well_cur : Option ℤ → Bool
well_cur None = true
well_cur (Some z) = leb (nat_abs z) 31

unfoldable pub well_mfmv : Mfmv → Bool
well_mfmv m = selectable m.reference && well_cur m.ref2cur && under m.ref2ref 32
