-- A frame's description out of lent bytes. A capture file has it in 67 (document 01, "Capture file"), the low byte of a number first: width and height of two
-- bytes; sb128, hint bits and current hint of one; seven hints; seven by seven hints by reference; tile rows, tile threads, frame threads and temporal flag
-- of one.
use Rattle.std.specs.Prelude.{ℕ, List, get_or, take, drop}
use Rattle.ground.specs.Little.{two_at}
use Rattle.frame.specs.declared.hints.description.Description.{Description}

-- the description whose hints are the first 7 and the first 49 bytes of what is lent
unfoldable pub described : (width height sb128 hint_bits current_hint : ℕ) (hints hints_by_ref : List ℕ)
    (tile_rows tile_threads frame_threads temporal : ℕ) → Description
described width height sb128 hint_bits current_hint hints hints_by_ref tile_rows tile_threads frame_threads temporal =
    record {
      width = width;
      height = height;
      sb128 = sb128;
      hint_bits = hint_bits;
      current_hint = current_hint;
      hints = take 7 hints;
      hints_by_ref = take 49 hints_by_ref;
      tile_rows = tile_rows;
      tile_threads = tile_threads;
      frame_threads = frame_threads;
      temporal = temporal;
    }

-- the description that any bytes hold
unfoldable pub description_at : List ℕ → Description
description_at l =
    described
    (two_at l 0)
    (two_at l 2)
    (get_or l 4 0)
    (get_or l 5 0)
    (get_or l 6 0)
    (drop 7 l)
    (drop 14 l)
    (get_or l 63 0)
    (get_or l 64 0)
    (get_or l 65 0)
    (get_or l 66 0)
