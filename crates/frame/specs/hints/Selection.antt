-- Which references are projected: the motion field estimation process (7.9.1), and the source's counting.
use Rattle.std.specs.Prelude.{ℕ, ◌+◌, Bool, true, false, ◌&&◌, ◌||◌, not, List, [], ◌∷◌, ◌++◌, eqb, ltb, leb, ℤ, pos, negsuc, ◌+ℤ◌, length, get_or, set}
use Rattle.std.specs.Int.Signed.{lt_z, le_z}
use Rattle.ground.specs.Pick.{pick}
use Rattle.frame.specs.declared.hints.description.Description.{Description}
use Rattle.frame.specs.declared.hints.select.Selection.{Selection}
use Rattle.frame.specs.hints.Description.{hint_at, held_at}
use Rattle.frame.specs.hints.Distances.{from_current}

-- references as the tables count them, from 0
abbrev pub last_frame : ℕ
last_frame = 0

abbrev pub last2_frame : ℕ
last2_frame = 1

abbrev pub golden_frame : ℕ
golden_frame = 3

abbrev pub bwdref_frame : ℕ
bwdref_frame = 4

abbrev pub altref2_frame : ℕ
altref2_frame = 5

abbrev pub altref_frame : ℕ
altref_frame = 6

-- a reference's field is there to be projected
unfoldable pub lent : List ℕ → ℕ → Bool
lent present r = eqb (get_or present r 0) 1

unfoldable pub later : Description → ℕ → Bool
later d r = lt_z (pos 0) (from_current d (hint_at d r))

-- One turn of the process: a reference, whether all but the stamp is for it, and whether it is taken whatever the stamp.
pub record Turn : Type 0 where
  pub reference : ℕ
  pub wanted : Bool
  pub always : Bool

-- BWDREF, ALTREF2 and ALTREF only where they come later, LAST2 on either side; the first two whatever the stamp
unfoldable pub turns : Description → List ℕ → List Turn
turns d present =
    record { reference = bwdref_frame; wanted = lent present bwdref_frame && later d bwdref_frame; always = true }
    ∷ record { reference = altref2_frame; wanted = lent present altref2_frame && later d altref2_frame; always = true }
    ∷ record { reference = altref_frame; wanted = lent present altref_frame && later d altref_frame; always = false }
    ∷ record { reference = last2_frame; wanted = lent present last2_frame; always = false }
    ∷ []

-- LAST, unless its own frame held for ALTREF the hint that GOLDEN has now
unfoldable pub last_wanted : Description → List ℕ → Bool
last_wanted d present = lent present last_frame && not (eqb (held_at d last_frame altref_frame) (hint_at d golden_frame))

abbrev pub first : Bool → List ℕ
first last = pick last (last_frame ∷ []) []

-- The standard: each reference that is projected lowers a stamp, and those that aren't taken always need it at 0 or above.
unfoldable pub stamped : ℤ → List ℕ → List Turn → List ℕ
stamped stamp taken [] = taken
stamped stamp taken (t ∷ ts) =
    pick ((t.always || le_z (pos 0) stamp) && t.wanted)
    (stamped (stamp +ℤ negsuc 0) (taken ++ (t.reference ∷ [])) ts)
    (stamped stamp taken ts)

-- The stamp starts at MFMV_STACK_SIZE - 2, which is 1, whether LAST was taken or not. Without order hints the flag can't be set (5.9.2).
unfoldable pub searched : Description → Bool
searched d = eqb d.temporal 1 && ltb 0 d.hint_bits

unfoldable pub selected : Description → List ℕ → List ℕ
selected d present = pick (searched d) (stamped (pos 1) (first (last_wanted d present)) (turns d present)) []

-- The source: as many as `total`, which is 3 where LAST was taken and else 2, but for those that are taken always.
unfoldable pub counted : ℕ → List ℕ → List Turn → List ℕ
counted total taken [] = taken
counted total taken (t ∷ ts) =
    counted total (pick ((t.always || ltb (length taken) total) && t.wanted) (taken ++ (t.reference ∷ [])) taken) ts

abbrev pub total_of : Bool → ℕ
total_of last = pick last 3 2

unfoldable pub selected_by_count : Description → List ℕ → List ℕ
selected_by_count d present =
    pick (searched d) (counted (total_of (last_wanted d present)) (first (last_wanted d present)) (turns d present)) []

-- How the code holds a list: its length, and three places, 0 where nothing is selected. And one more reference behind it.
unfoldable pub as_selection : List ℕ → Selection
as_selection xs = record { n = length xs; refs = get_or xs 0 0 ∷ get_or xs 1 0 ∷ get_or xs 2 0 ∷ [] }

unfoldable pub grown_of : Bool → ℕ → Selection → Selection
grown_of take r s = pick take (record { n = s.n + 1; refs = set s.refs s.n r }) s

-- the five references that may be selected
unfoldable pub selectable : ℕ → Bool
selectable r = pick (leb bwdref_frame r) (leb r altref_frame) (leb r last2_frame)
