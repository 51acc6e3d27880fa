-- The search over lent records and the search over lent bytes as one: the same parts, the same question, and a stack whose bytes hold the records. A refusal
-- has one number, and all is as lent; else count and context are the same, and afterwards the stack's bytes hold the records afterwards.
use Rattle.std.specs.Prelude.{ℕ, ◌≡◌, Bool, List, [], ◌∷◌, ◌++◌, length, drop}
use Rattle.ground.specs.Little.{four_bytes}
use Rattle.ground.specs.Script.{run}
use Rattle.vector.specs.Vector.{mv_bytes}
use Rattle.layout.specs.FrameBytes.{frame_at}
use Rattle.layout.specs.TileBytes.{tile_at}
use Rattle.stack.specs.declared.candidate.Candidate.{Candidate}
use Rattle.search.specs.declared.front.ask.Ask.{Ask}
use Rattle.search.specs.declared.candidates.plan.SearchAnswer.{SearchAnswer}
use Rattle.search.specs.declared.candidates.plan.SearchAnswer.TheVariants.{Refused, Found}
use Rattle.search.specs.Find.{SearchOutcome, find_of}
use Rattle.search.specs.lent_bytes.Whole.{is_compound, answer_in, stack_script, found_script}
use Rattle.search.specs.candidates.Plan.{plan_of, stored}

-- a record's 12 bytes: first vector, second vector, weight; and records one behind the other
unfoldable pub candidate_bytes : Candidate → List ℕ
candidate_bytes c = mv_bytes c.mv.first ++ (mv_bytes c.mv.second ++ four_bytes c.weight)

unfoldable pub bytes_of : List Candidate → List ℕ
bytes_of [] = []
bytes_of (c ∷ cs) = candidate_bytes c ++ bytes_of cs

-- Beside an answer over the records cs, which are cs' afterwards: what the search over bytes gives, as r, over a stack that holds cs and goes on with `rest`;
-- `found` is where count and context are laid.
abbrev pub Beside : SearchAnswer → (cs cs' : List Candidate) (compound : Bool) (r : SearchOutcome) (rest found : List ℕ) → Type 0
Beside (Refused n) cs cs' compound r rest found =
    (answer_in r ≡ n)
    × (cs' ≡ cs)
    × (run (stack_script compound r) (bytes_of cs ++ rest) ≡ bytes_of cs ++ rest)
    × (run (found_script r) found ≡ found)
Beside (Found count context) cs cs' compound r rest found =
    (answer_in r ≡ 0)
    × (run (stack_script compound r) (bytes_of cs ++ rest) ≡ bytes_of cs' ++ rest)
    × (run (found_script r) found ≡ count ∷ context ∷ drop 2 found)

-- ONE ANSWER, of `find` over records and of `find_into` over bytes, as their contracts fix them
abbrev pub OneAnswer : (frame tile recs proj : List ℕ) → Ask → List Candidate → (rest found : List ℕ) → Type 0
OneAnswer frame tile recs proj a cs rest found =
    Beside (plan_of (length cs) frame tile recs proj a).answer cs (stored cs frame tile recs proj a) (is_compound a)
    (find_of (frame_at frame) (tile_at tile) recs proj a) rest found
