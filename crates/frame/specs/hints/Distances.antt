-- How far each reference lies from the current frame, by get_relative_dist (5.9.3).
use Rattle.std.specs.Prelude.{ℕ, Bool, ◌&&◌, List, [], ◌∷◌, leb, ℤ, pos, neg_ℤ, nat_abs}
use Rattle.std.specs.Int.Signed.{lt_z}
use Rattle.ground.specs.Pick.{pick}
use Rattle.ground.specs.Sign.{below, clip3}
use Rattle.vector.specs.Hint.{distance}
use Rattle.frame.specs.declared.hints.description.Description.{Description}
use Rattle.frame.specs.hints.Description.{hint_at}
use Rattle.frame.specs.declared.hints.distances.RefHint.{RefHint}

abbrev pub flag_of : Bool → ℕ
flag_of b = pick b 1 0

-- f of each of the seven references
abbrev pub seven : {A : Type 0} → (ℕ → A) → List A
seven f = f 0 ∷ f 1 ∷ f 2 ∷ f 3 ∷ f 4 ∷ f 5 ∷ f 6 ∷ []

-- from the current frame to the frame of a hint: above 0 where that frame comes later
unfoldable pub from_current : Description → ℕ → ℤ
from_current d hint = distance d.hint_bits hint d.current_hint

-- the sign bias of a reference (5.9.2), its mirror, which saving reads, and the distance back, which projects a candidate (7.10.2.6)
unfoldable pub ref_hint_of : Description → ℕ → RefHint
ref_hint_of d hint =
    record {
      sign_bias = flag_of (lt_z (pos 0) (from_current d hint));
      mfmv_sign = flag_of (below (from_current d hint));
      pocdiff = clip3 (neg_ℤ (pos 31)) (pos 31) (distance d.hint_bits d.current_hint hint);
    }

unfoldable pub ref_hints : Description → List RefHint
ref_hints d = seven (λ i. ref_hint_of d (hint_at d i))

-- values that setup can give
unfoldable pub well_hint : RefHint → Bool
well_hint h = leb h.sign_bias 1 && leb h.mfmv_sign 1 && leb (nat_abs h.pocdiff) 31
