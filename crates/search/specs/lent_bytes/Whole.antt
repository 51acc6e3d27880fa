-- A search's answer on lent bytes: its number, its stack, count and context.
use Rattle.std.specs.Prelude.{ℕ, Bool, List, [], ◌∷◌, ◌++◌, length}
use Rattle.ground.specs.Pick.{pick}
use Rattle.ground.specs.Script.{Patch}
use Rattle.layout.specs.FrameBytes.{frame_at}
use Rattle.layout.specs.TileBytes.{tile_at}
use Rattle.cells.specs.Cell.{is_ref}
use Rattle.search.specs.declared.front.ask.Ask.{Ask}
use Rattle.search.specs.Find.{SearchOutcome, refused, got, find_of}
use Rattle.search.specs.lent_bytes.Question.{ask_at}
use Rattle.search.specs.lent_bytes.Store.{candidates_script, fills_script}

abbrev pub is_compound : Ask → Bool
is_compound a = is_ref a.refs.second

-- what the bytes of a frame record, a tile, records, a projection and a question ask for
abbrev pub searched_in : (frame tile recs proj ask : List ℕ) → SearchOutcome
searched_in frame tile recs proj ask = find_of (frame_at frame) (tile_at tile) recs proj (ask_at ask)

abbrev pub answer_in : SearchOutcome → ℕ
answer_in (refused n) = n
answer_in (got f) = 0

-- nothing where it is refused
unfoldable pub stack_script : Bool → SearchOutcome → List Patch
stack_script compound (refused n) = []
stack_script compound (got f) =
    candidates_script compound f.cands ++ pick compound [] (fills_script f.fill (length f.cands))

unfoldable pub found_script : SearchOutcome → List Patch
found_script (refused n) = []
found_script (got f) = record { at = 0; bytes = length f.cands ∷ f.context ∷ [] } ∷ []
