-- The candidate search on lent bytes: a question in 24, eight records of 12, count and context in 2.
use Rattle.std.specs.Prelude.{ℕ, Bool, ◌||◌, List, [], ltb, length}
use Rattle.ground.specs.Pick.{pick}
use Rattle.ground.specs.Script.{Patch}
use Rattle.layout.specs.FrameBytes.{frame_at}
use Rattle.layout.specs.TileBytes.{tile_at}
use Rattle.search.specs.Find.{SearchOutcome, find_of}
use Rattle.search.specs.lent_bytes.Question.{ask_at}
use Rattle.search.specs.lent_bytes.Whole.{is_compound, answer_in, stack_script, found_script}
use Rattle.jaskkovir.specs.Framed.{short_frame}
use Rattle.jaskkovir.specs.Tiled.{short_tile}

abbrev pub short_ask : ℕ → Bool
short_ask n = ltb n 24

abbrev pub short_stack : ℕ → Bool
short_stack n = ltb n 96

abbrev pub short_found : ℕ → Bool
short_found n = ltb n 2

unfoldable pub find_lacks : (frame tile ask stack found : ℕ) → Bool
find_lacks frame tile ask stack found =
    short_frame frame || (short_tile tile || (short_ask ask || (short_stack stack || short_found found)))

-- what the bytes ask for
unfoldable pub found_in : (frame tile records proj ask : List ℕ) → SearchOutcome
found_in frame tile records proj ask = find_of (frame_at frame) (tile_at tile) records proj (ask_at ask)

-- stack and found are the lengths of the parts that are lent for the answer
unfoldable pub searched_answer : (frame tile records proj ask : List ℕ) → (stack found : ℕ) → ℕ
searched_answer frame tile records proj ask stack found =
    pick (find_lacks (length frame) (length tile) (length ask) stack found) 4 (answer_in (found_in frame tile records proj ask))

unfoldable pub searched_stack : (frame tile records proj ask : List ℕ) → (stack found : ℕ) → List Patch
searched_stack frame tile records proj ask stack found =
    pick (find_lacks (length frame) (length tile) (length ask) stack found) [] (stack_script (is_compound (ask_at ask)) (found_in frame tile records proj ask))

unfoldable pub searched_found : (frame tile records proj ask : List ℕ) → (stack found : ℕ) → List Patch
searched_found frame tile records proj ask stack found =
    pick (find_lacks (length frame) (length tile) (length ask) stack found) [] (found_script (found_in frame tile records proj ask))
