-- The 109 bytes of a frame record, the low byte of a number first: twelve numbers of four bytes, use_ref_frame_mvs, temporal and n_mfmvs of one,
-- seven hints of four bytes, three selected references of ten.
use Rattle.std.specs.Prelude.{Option, None, Some}
use Rattle.std.specs.Prelude.{ℕ, ◌+◌, ◌%◌, List, [], ◌∷◌, ◌++◌, ℤ, negsuc, get_or}
use Rattle.ground.specs.Pick.{pick}
use Rattle.ground.specs.Sign.{eq_z}
use Rattle.ground.specs.Twos.{half_at, half_of}
use Rattle.ground.specs.Little.{four_at, fours}
use Rattle.frame.specs.declared.extent.sizes.Sizes.{Sizes}
use Rattle.frame.specs.declared.hints.distances.RefHint.{RefHint}
use Rattle.frame.specs.declared.mfmv.Mfmv.{Mfmv}
use Rattle.frame.specs.declared.record.Frame.{Frame}
use Rattle.frame.specs.Record.{no_hint}
use Rattle.frame.specs.Mfmv.{no_mfmv}

-- The record that any bytes hold.
unfoldable pub sizes_at : List ℕ → Sizes
sizes_at l =
    record {
      width = four_at l 0;
      height = four_at l 4;
      iw4 = record { 0 = four_at l 8 };
      ih4 = record { 0 = four_at l 12 };
      iw8 = record { 0 = four_at l 16 };
      ih8 = record { 0 = four_at l 20 };
      sbsz = record { 0 = four_at l 24 };
      stride = record { 0 = four_at l 28 };
      tile_rows = four_at l 32;
      n_blocks = four_at l 36;
      n_tile_threads = four_at l 40;
      n_frame_threads = four_at l 44;
    }

-- two flags, and the distance in two bytes
unfoldable pub ref_hint_at : List ℕ → ℕ → RefHint
ref_hint_at l i = record { sign_bias = get_or l i 0; mfmv_sign = get_or l (i + 1) 0; pocdiff = half_at l (i + 2) }

unfoldable pub ref_hints_at : List ℕ → List RefHint
ref_hints_at l =
    ref_hint_at l 51 ∷ ref_hint_at l 55 ∷ ref_hint_at l 59 ∷ ref_hint_at l 63 ∷ ref_hint_at l 67 ∷ ref_hint_at l 71 ∷ ref_hint_at l 75 ∷ []

-- -32,768 stands for a skipped reference: `negsuc n` is -1 - n
abbrev pub skipped_mark : ℤ
skipped_mark = negsuc 32767

unfoldable pub cur_of : ℤ → Option ℤ
cur_of z = pick (eq_z z skipped_mark) None (Some z)

unfoldable pub offsets_at : List ℕ → ℕ → List ℕ
offsets_at l i =
    get_or l i 0 ∷ get_or l (i + 1) 0 ∷ get_or l (i + 2) 0 ∷ get_or l (i + 3) 0 ∷ get_or l (i + 4) 0 ∷ get_or l (i + 5) 0 ∷ get_or l (i + 6) 0 ∷ []

-- the reference, its distance in two bytes, its seven offsets
unfoldable pub mfmv_at : List ℕ → ℕ → Mfmv
mfmv_at l i = record { reference = get_or l i 0; ref2cur = cur_of (half_at l (i + 1)); ref2ref = offsets_at l (i + 3) }

unfoldable pub frame_at : List ℕ → Frame
frame_at l =
    record {
      sizes = sizes_at l;
      use_ref_frame_mvs = get_or l 48 0;
      temporal = get_or l 49 0;
      refs = ref_hints_at l;
      n_mfmvs = get_or l 50 0;
      mfmvs = mfmv_at l 79 ∷ mfmv_at l 89 ∷ mfmv_at l 99 ∷ [];
    }

-- The bytes that hold a record: the low ones of each number, which are all where setup made it (proofs/Kept).
unfoldable pub size_numbers : Sizes → List ℕ
size_numbers s =
    s.width ∷ s.height ∷ s.iw4.0 ∷ s.ih4.0 ∷ s.iw8.0 ∷ s.ih8.0 ∷ s.sbsz.0 ∷ s.stride.0
    ∷ s.tile_rows ∷ s.n_blocks ∷ s.n_tile_threads ∷ s.n_frame_threads ∷ []

unfoldable pub hint_bytes : RefHint → List ℕ
hint_bytes h = h.sign_bias ∷ h.mfmv_sign ∷ half_of h.pocdiff

unfoldable pub hints_bytes : List RefHint → List ℕ
hints_bytes hs =
    hint_bytes (get_or hs 0 no_hint) ++ (hint_bytes (get_or hs 1 no_hint) ++ (hint_bytes (get_or hs 2 no_hint) ++ (hint_bytes (get_or hs 3 no_hint)
    ++ (hint_bytes (get_or hs 4 no_hint) ++ (hint_bytes (get_or hs 5 no_hint) ++ hint_bytes (get_or hs 6 no_hint))))))

unfoldable pub cur_number : Option ℤ → ℤ
cur_number None = skipped_mark
cur_number (Some z) = z

unfoldable pub mfmv_bytes : Mfmv → List ℕ
mfmv_bytes m = m.reference ∷ (half_of (cur_number m.ref2cur) ++ offsets_at m.ref2ref 0)

unfoldable pub mfmvs_bytes : List Mfmv → List ℕ
mfmvs_bytes ms = mfmv_bytes (get_or ms 0 no_mfmv) ++ (mfmv_bytes (get_or ms 1 no_mfmv) ++ mfmv_bytes (get_or ms 2 no_mfmv))

unfoldable pub frame_bytes : Frame → List ℕ
frame_bytes f =
    fours (size_numbers f.sizes)
    ++ (f.use_ref_frame_mvs ∷ f.temporal ∷ f.n_mfmvs % 256 ∷ (hints_bytes f.refs ++ mfmvs_bytes f.mfmvs))
