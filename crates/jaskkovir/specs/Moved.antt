-- What save and load on lent bytes answer, and what they write. A frame, or present flags, that are too short are refused with 4, before anything else.
use Rattle.std.specs.Prelude.{ℕ, Bool, ◌||◌, List, [], ltb, length, take}
use Rattle.ground.specs.Pick.{pick}
use Rattle.ground.specs.Script.{Patch}
use Rattle.motion.specs.declared.saving.area.Area.{Area}
use Rattle.motion.specs.saving.Save.{save_answer, save_script}
use Rattle.motion.specs.declared.loading.fields.Lent.{Lent}
use Rattle.motion.specs.loading.Used.{uses_of}
use Rattle.motion.specs.loading.Fields.{chosen}
use Rattle.motion.specs.loading.Load.{load_answer, load_script}
use Rattle.layout.specs.FrameBytes.{frame_at}
use Rattle.jaskkovir.specs.Framed.{short_frame}

-- columns left to before right and rows top to before bottom of a tile row
unfoldable pub area : (tile left right top bottom : ℕ) → Area
area tile left right top bottom =
    record { tile = tile; left = record { 0 = left }; right = record { 0 = right }; top = record { 0 = top }; bottom = record { 0 = bottom } }

-- n is the length of the part lent for the saved field
unfoldable pub saved_answer : (frame records : List ℕ) → Area → (sby pass n : ℕ) → ℕ
saved_answer frame records a sby pass n = pick (short_frame (length frame)) 4 (save_answer records (frame_at frame) a sby pass n)

unfoldable pub saved_script : (frame records : List ℕ) → Area → (sby pass n : ℕ) → List Patch
saved_script frame records a sby pass n = pick (short_frame (length frame)) [] (save_script records (frame_at frame) a sby pass n)

-- by the lengths of the parts lent for the frame and the present flags
unfoldable pub load_lacks : (frame present : ℕ) → Bool
load_lacks frame present = short_frame frame || ltb present 7

-- the first seven present flags say which of the seven fields are lent
abbrev pub lent_by : List ℕ → Lent
lent_by present = record { form = take 7 present }

-- of the seven those that the frame's loads use
abbrev pub used_by : List ℕ → List (List ℕ) → List (List ℕ)
used_by frame fields = chosen (uses_of (frame_at frame)) fields

-- n is the length of the part lent for the projection
unfoldable pub loaded_answer : (frame present : List ℕ) → List (List ℕ) → Area → ℕ → ℕ
loaded_answer frame present fields a n =
    pick (load_lacks (length frame) (length present)) 4 (load_answer (used_by frame fields) (frame_at frame) a (lent_by present) n)

unfoldable pub loaded_script : (frame present : List ℕ) → List (List ℕ) → Area → ℕ → List Patch
loaded_script frame present fields a n =
    pick (load_lacks (length frame) (length present)) [] (load_script (used_by frame fields) (frame_at frame) a (lent_by present) n)
