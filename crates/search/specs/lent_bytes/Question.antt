-- A search's question in 24 bytes, the low byte of a number first.
use Rattle.std.specs.Prelude.{ℕ, List, get_or}
use Rattle.ground.specs.Little.{four_at}
use Rattle.vector.specs.Vector.{mv_at}
use Rattle.cells.specs.Block.{MvPair}
use Rattle.cells.specs.Block.{refs_at}
use Rattle.search.specs.declared.front.ask.Ask.{Ask}

-- a vector of four bytes, and behind it its flag
unfoldable pub globals_at : List ℕ → MvPair
globals_at l = record { first = mv_at l 12; second = mv_at l 17 }

unfoldable pub ask_at : List ℕ → Ask
ask_at l =
    record {
      refs = refs_at l 0;
      bs = get_or l 2 0;
      decoded = get_or l 3 0;
      y = record { 0 = four_at l 4 };
      x = record { 0 = four_at l 8 };
      gmv = globals_at l;
      first_above = get_or l 16 0;
      second_above = get_or l 21 0;
      integer = get_or l 22 0;
      hp = get_or l 23 0;
    }
