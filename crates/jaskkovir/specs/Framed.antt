-- What the functions on frames answer, and what they write. A lent part that is too short is refused with 4, before anything else.
use Rattle.std.specs.Prelude.{ℕ, Bool, ◌||◌, List, [], ◌∷◌, ltb, length, take}
use Rattle.ground.specs.Pick.{pick}
use Rattle.ground.specs.Answer.{accepted}
use Rattle.ground.specs.Script.{Patch}
use Rattle.ground.specs.Little.{fours}
use Rattle.frame.specs.declared.hints.description.Description.{Description}
use Rattle.frame.specs.declared.extent.sizes.Sizes.{Sizes}
use Rattle.frame.specs.extent.Sizes.{saved_cells, projected_cells, records}
use Rattle.frame.specs.hints.Description.{setup_answer}
use Rattle.frame.specs.Record.{frame_of, check_answer}
use Rattle.layout.specs.FrameBytes.{frame_at, frame_bytes}

-- bytes over the start of a lent part
abbrev pub whole : List ℕ → List Patch
whole bs = record { at = 0; bytes = bs } ∷ []

-- a frame record, in bytes
abbrev pub short_frame : ℕ → Bool
short_frame n = ltb n 109

-- by the lengths of the parts lent for hints, hints by reference, present flags and the frame
unfoldable pub init_lacks : (hints hints_by_ref present frame : ℕ) → Bool
init_lacks hints hints_by_ref present frame = ltb hints 7 || (ltb hints_by_ref 49 || (ltb present 7 || short_frame frame))

unfoldable pub init_answer : Bool → Description → List ℕ → ℕ
init_answer lacks d present = pick lacks 4 (setup_answer d (take 7 present))

unfoldable pub init_script : Bool → Description → List ℕ → List Patch
init_script lacks d present = accepted (init_answer lacks d present) (whole (frame_bytes (frame_of d (take 7 present))))

unfoldable pub checked : List ℕ → ℕ
checked frame = pick (short_frame (length frame)) 4 (check_answer (frame_at frame))

-- saved cells, projected cells and records, four bytes each
unfoldable pub listed_bytes : Sizes → List ℕ
listed_bytes s = fours (saved_cells s ∷ projected_cells s ∷ records s ∷ [])

-- by the lengths of the frame and of the part lent for the sizes
unfoldable pub listed_lacks : (frame sizes : ℕ) → Bool
listed_lacks frame sizes = short_frame frame || ltb sizes 12

unfoldable pub listed_answer : List ℕ → ℕ → ℕ
listed_answer frame n = pick (listed_lacks (length frame) n) 4 (check_answer (frame_at frame))

unfoldable pub listed_script : List ℕ → ℕ → List Patch
listed_script frame n = accepted (listed_answer frame n) (whole (listed_bytes (frame_at frame).sizes))
