-- What a load is lent (document 01, port order 6; refusals 1, 4 and 5): seven fields, of which it uses at most three. They are chosen once; below the choice
-- `fields` are the used references' own, by the number of the use.
use Rattle.std.specs.Prelude.{ℕ, ◌*◌, Bool, ◌||◌, not, List, [], ◌∷◌, ltb, eqb, length, get_or, map}
use Rattle.cells.specs.declared.cell.Cell.{Cell}
use Rattle.frame.specs.declared.record.Frame.{Frame}
use Rattle.frame.specs.hints.Description.{under}
use Rattle.motion.specs.declared.loading.fields.Lent.{Lent}
use Rattle.motion.specs.declared.loading.fields.LentFields.{LentFields}
use Rattle.motion.specs.declared.loading.fields.UsedFields.{UsedFields}
use Rattle.motion.specs.declared.loading.used.Uses.{Uses}
use Rattle.motion.specs.landing.Row.{source_at}
use Rattle.motion.specs.loading.Used.{use_at}

-- a load's sources: the cell of a use, by its number, at a row and a column
abbrev pub Sources : Type 0
Sources = ℕ → ℕ → ℕ → Cell

-- the seven lent fields; and those of the first, the second and the third used reference
abbrev pub lent : (f0 f1 f2 f3 f4 f5 f6 : List ℕ) → List (List ℕ)
lent f0 f1 f2 f3 f4 f5 f6 = f0 ∷ f1 ∷ f2 ∷ f3 ∷ f4 ∷ f5 ∷ f6 ∷ []

abbrev pub three : (first second third : List ℕ) → List (List ℕ)
three first second third = first ∷ second ∷ third ∷ []

-- what the seven hold, and what the used ones hold
abbrev pub all_lent : LentFields → List (List ℕ)
all_lent l = map (λ s. s.now) l.slices

abbrev pub all_used : UsedFields → List (List ℕ)
all_used u = map (λ s. s.now) u.slices

-- THE CHOICE: of the seven those that the uses name. From here on `fields` are the used references' own, by the number of the use.
unfoldable pub chosen : Uses → List (List ℕ) → List (List ℕ)
chosen us fields =
    three (get_or fields (use_at us 0).field []) (get_or fields (use_at us 1).field []) (get_or fields (use_at us 2).field [])

-- their cells, in rows of so many
unfoldable pub cells_of : List (List ℕ) → ℕ → Sources
cells_of fields stride i y = source_at (get_or fields i []) (y * stride)

-- the cells of a frame's fields
abbrev pub cells_in : List (List ℕ) → Frame → Sources
cells_in fields f = cells_of fields f.sizes.stride.0

abbrev pub lengths_of : List (List ℕ) → List ℕ
lengths_of [] = []
lengths_of (f ∷ fs) = length f ∷ lengths_of fs

-- what is said of the lent fields: each form is 0, not lent, or 1
unfoldable pub well_lent : Lent → Bool
well_lent l = under l.form 2

-- a used reference's field: long enough where it is lent, and lent; lengths are those of the used fields
unfoldable pub long_enough : ℕ → Uses → Lent → (lengths : List ℕ) → ℕ → Bool
long_enough need us l lengths i = eqb (get_or l.form (use_at us i).field 0) 0 || not (ltb (get_or lengths i 0) need)

unfoldable pub is_lent : Uses → Lent → ℕ → Bool
is_lent us l i = not (eqb (get_or l.form (use_at us i).field 0) 0)
