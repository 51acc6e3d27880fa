-- These definitions follow the code: what a search has found, in 20 lent numbers: eight pairs of vectors, eight weights, the count, three flags.
use Rattle.std.specs.Prelude.{ℕ, ◌+◌, ◌*◌, ◌/◌, ◌%◌, ◌≤◌, ◌≡◌, Bool, true, not, List, eqb, length, get_or}
use Rattle.ground.specs.Tab.{tab}
use Rattle.vector.specs.Vector.{mv_bits, mv_of}
use Rattle.cells.specs.Block.{MvPair}
use Rattle.stack.specs.declared.candidate.Candidate.{Candidate}
use Rattle.stack.specs.declared.numbers.Flag.{Flag}
use Rattle.stack.specs.declared.numbers.Flag.TheVariants.{NewMv, Above, Left}
use Rattle.stack.specs.Stack.{State}
use Rattle.stack.specs.Code.Found.{Found, live, view, heft}

-- a pair in one number of 64 bits, the first vector in the lower half; and the pair that such a number holds
unfoldable pub pair_bits : MvPair → ℕ
pair_bits p = mv_bits p.first + 4294967296 * mv_bits p.second

unfoldable pub pair_in : ℕ → MvPair
pair_in n = record { first = mv_of (n % 4294967296); second = mv_of (n / 4294967296) }

unfoldable pub cand_at : List ℕ → ℕ → Candidate
cand_at l i = record { mv = pair_in (get_or l i 0); weight = get_or l (8 + i) 0 }

abbrev pub is_on : ℕ → Bool
is_on n = not (eqb n 0)

unfoldable pub found_at : List ℕ → Found
found_at l =
    record {
      stack = tab (cand_at l) 0 8;
      count = get_or l 16 0;
      newmv = is_on (get_or l 17 0);
      above = is_on (get_or l 18 0);
      left = is_on (get_or l 19 0);
    }

-- the state, the weight and the count of what the numbers hold
abbrev pub view_at : List ℕ → State
view_at l = view (found_at l)

abbrev pub heft_at : List ℕ → ℕ
heft_at l = heft (live (found_at l))

abbrev pub count_at : List ℕ → ℕ
count_at l = (found_at l).count

-- a flag's place, the flag, and what was found with it set
abbrev pub place_of : Flag → ℕ
place_of NewMv = 17
place_of Above = 18
place_of Left = 19

abbrev pub flag_in : Flag → Found → Bool
flag_in NewMv s = s.newmv
flag_in Above s = s.above
flag_in Left s = s.left

abbrev pub flagged : Flag → Found → Found
flagged NewMv s = record { stack = s.stack; count = s.count; newmv = true; above = s.above; left = s.left }
flagged Above s = record { stack = s.stack; count = s.count; newmv = s.newmv; above = true; left = s.left }
flagged Left s = record { stack = s.stack; count = s.count; newmv = s.newmv; above = s.above; left = true }

-- what every part of a search keeps
pub record Held (l : List ℕ) : Type 0 where
  pub size : length l ≡ 20
  pub room : (found_at l).count ≤ 8
