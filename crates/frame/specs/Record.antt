-- The finished record: what frame setup answers, and when a record handed back is one that it can give (document 01, refusal 1).
use Rattle.std.specs.Prelude.{ℕ, Bool, ◌&&◌, List, ltb, leb, pos, length, get_or}
use Rattle.ground.specs.Pick.{pick}
use Rattle.ground.specs.Below.{all_below}
use Rattle.frame.specs.declared.hints.description.Description.{Description}
use Rattle.frame.specs.declared.hints.distances.RefHint.{RefHint}
use Rattle.frame.specs.declared.record.Frame.{Frame}
use Rattle.frame.specs.extent.Sizes.{sbsz_of, sizes_of, well_sizes}
use Rattle.frame.specs.hints.Distances.{flag_of, ref_hints, well_hint}
use Rattle.frame.specs.hints.Selection.{selected}
use Rattle.frame.specs.Mfmv.{no_mfmv, slots, well_mfmv}

unfoldable pub frame_of : Description → List ℕ → Frame
frame_of d present =
    record {
      sizes = sizes_of d.width d.height (sbsz_of d.sb128) d.tile_rows d.tile_threads d.frame_threads;
      use_ref_frame_mvs = flag_of (ltb 0 (length (selected d present)));
      temporal = d.temporal;
      refs = ref_hints d;
      n_mfmvs = length (selected d present);
      mfmvs = slots d (selected d present);
    }

-- what a read past the record's hints would give
abbrev pub no_hint : RefHint
no_hint = record { sign_bias = 0; mfmv_sign = 0; pocdiff = pos 0 }

-- each field is one that setup can give
unfoldable pub well_frame : Frame → Bool
well_frame f =
    well_sizes f.sizes && leb f.use_ref_frame_mvs 1 && leb f.temporal 1 && leb f.n_mfmvs 3
    && all_below 7 (λ i. well_hint (get_or f.refs i no_hint)) && all_below 3 (λ i. well_mfmv (get_or f.mfmvs i no_mfmv))

unfoldable pub check_answer : Frame → ℕ
check_answer f = pick (well_frame f) 0 1
