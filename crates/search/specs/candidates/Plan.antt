-- A search's answer over eight lent records (document 01, port order 7). Fixed afterwards are weight and used vectors below the count, and in a single search
-- the first vector of slots count .. 1; all else is as lent.
use Rattle.std.specs.Prelude.{ℕ, ◌%◌, ◌^◌, Bool, ◌||◌, List, [], ltb, length, get_or}
use Rattle.ground.specs.Pick.{pick}
use Rattle.ground.specs.Tab.{tab}
use Rattle.vector.specs.Vector.{zero}
use Rattle.layout.specs.FrameBytes.{frame_at}
use Rattle.layout.specs.TileBytes.{tile_at}
use Rattle.stack.specs.declared.candidate.Candidate.{Candidate}
use Rattle.stack.specs.Stack.{nobody}
use Rattle.cells.specs.Cell.{is_ref}
use Rattle.search.specs.declared.front.ask.Ask.{Ask}
use Rattle.search.specs.Find.{SearchOutcome, refused, got, find_of}
use Rattle.search.specs.declared.candidates.plan.SearchAnswer.{SearchAnswer}
use Rattle.search.specs.declared.candidates.plan.SearchAnswer.TheVariants.{Refused, Found}
use Rattle.search.specs.declared.candidates.plan.Listing.{Listing}
use Rattle.search.specs.declared.candidates.plan.Plan.{Plan}
use Rattle.search.specs.candidates.Each.{map_from}

-- a candidate in a record, whose weight has 32 bits
abbrev pub recorded : Candidate → Candidate
recorded c = record { mv = c.mv; weight = c.weight % 2 ^ 32 }

-- the candidates in eight records, zero ones behind them
unfoldable pub eight : List Candidate → List Candidate
eight l = tab (λ i. recorded (get_or l i nobody)) 0 8

-- an answer by its cases: a refusal's number, or, where the paper's number is 0, count and context
abbrev pub answer_of : SearchOutcome → SearchAnswer
answer_of (refused n) = Refused n
answer_of (got f) = Found (length f.cands) f.context

-- THE RESULT BY VALUE, and how many records are stored to
unfoldable pub plan_for : Bool → SearchOutcome → Plan
plan_for compound (refused n) =
    record { n = 0; found = record { stack = eight []; count = 0; compound = compound; fill = zero }; answer = answer_of (refused n) }
plan_for compound (got f) =
    record {
      n = 8;
      found = record { stack = eight f.cands; count = length f.cands; compound = compound; fill = f.fill };
      answer = answer_of (got f);
    }

-- fewer than eight records, or a frame record or a tile that is cut short: refusal 4, before anything is read
unfoldable pub lacking : (slots frame tile : ℕ) → Bool
lacking slots frame tile = ltb slots 8 || (ltb frame 109 || ltb tile 168)

unfoldable pub found_in : ℕ → (frame tile recs proj : List ℕ) → Ask → SearchOutcome
found_in slots frame tile recs proj a =
    pick (lacking slots (length frame) (length tile)) (refused 4) (find_of (frame_at frame) (tile_at tile) recs proj a)

unfoldable pub plan_of : ℕ → (frame tile recs proj : List ℕ) → Ask → Plan
plan_of slots frame tile recs proj a = plan_for (is_ref a.refs.second) (found_in slots frame tile recs proj a)

-- ONE RECORD AFTERWARDS, from what it held: a candidate, without its second vector in a single search
abbrev pub taken : Bool → Candidate → Candidate → Candidate
taken compound old c =
    record { mv = record { first = c.mv.first; second = pick compound c.mv.second old.mv.second }; weight = c.weight }

-- the first vector of a slot that no candidate takes
abbrev pub filled : Candidate → Listing → Candidate
filled old f = record { mv = record { first = f.fill; second = old.mv.second }; weight = old.weight }

unfoldable pub slot_of : Candidate → Listing → ℕ → Candidate
slot_of old f i =
    pick (ltb i f.count) (taken f.compound old (get_or f.stack i nobody))
    (pick f.compound old (pick (ltb i 2) (filled old f) old))

-- all of them
abbrev pub stored : List Candidate → (frame tile recs proj : List ℕ) → Ask → List Candidate
stored cs frame tile recs proj a =
    map_from (λ c i. slot_of c (plan_of (length cs) frame tile recs proj a).found i) cs 0 (plan_of (length cs) frame tile recs proj a).n
