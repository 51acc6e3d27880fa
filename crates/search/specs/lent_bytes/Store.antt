-- What a search lays over the eight records of its lent stack (document 01, port order 7): weight and used vectors below the count, and in a single
-- search the first vector of slots count .. 1. Nothing else.
use Rattle.std.specs.Prelude.{ℕ, ◌+◌, ◌*◌, Bool, List, [], ◌∷◌, ◌++◌, length, get_or}
use Rattle.ground.specs.Pick.{pick}
use Rattle.ground.specs.Little.{four_bytes}
use Rattle.ground.specs.Script.{Patch}
use Rattle.ground.specs.Span.{span}
use Rattle.vector.specs.declared.mv.Mv.{Mv}
use Rattle.vector.specs.Vector.{mv_bytes}
use Rattle.stack.specs.declared.candidate.Candidate.{Candidate}
use Rattle.stack.specs.Stack.{nobody}

-- record i has 12 bytes: first vector, second vector, weight
abbrev pub vector_patch : ℕ → Mv → Patch
vector_patch at v = record { at = at; bytes = mv_bytes v }

abbrev pub second_patch : Bool → ℕ → Mv → List Patch
second_patch compound i v = pick compound (vector_patch (12 * i + 4) v ∷ []) []

unfoldable pub candidate_patches : Bool → ℕ → Candidate → List Patch
candidate_patches compound i c =
    vector_patch (12 * i) c.mv.first ∷ (second_patch compound i c.mv.second ++ (record { at = 12 * i + 8; bytes = four_bytes c.weight } ∷ []))

unfoldable pub candidates_script : Bool → List Candidate → List Patch
candidates_script compound l = span (λ i. candidate_patches compound i (get_or l i nobody)) 0 (length l)

unfoldable pub fill_patch : Mv → ℕ → List Patch
fill_patch v i = vector_patch (12 * i) v ∷ []

-- slots count .. 1
unfoldable pub fills_script : Mv → ℕ → List Patch
fills_script v count = span (fill_patch v) count 2
