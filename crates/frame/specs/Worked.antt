-- Document 01's worked values P1 to P9: one table, each line a definition's value beside the value that is given, and one claim, which the checker computes.
use Rattle.std.specs.Prelude.{◌≡◌, refl, List, [], ◌∷◌, ◌++◌, map, pos}
use Rattle.ground.specs.Sign.{clip3, round2, round2_signed}
use Rattle.vector.specs.Projection.{rescaled, projected}
use Rattle.vector.specs.Precision.{lowered}
use Rattle.vector.specs.Hint.{distance}
use Rattle.vector.specs.Worked as vectors
use Rattle.vector.specs.Worked.{Line}
use Rattle.frame.specs.extent.Sizes.{eighths, stride_of, parts_of, passes_of, sizes_of, records}

-- P1 to P8, then P9: width 1,920, one thread each way
abbrev pub table : List Line
table =
    vectors.table
    ++ (record { got = pos (sizes_of 1920 1080 16 1 1 1).stride.0; want = pos 240 }
    ∷ record { got = pos (records (sizes_of 1920 1080 16 1 1 1)); want = pos 16801 }
    ∷ [])

pub worked : map (λ (l : Line). l.got) table ≡ map (λ (l : Line). l.want) table
unfolding projected rescaled clip3 round2_signed round2 lowered distance eighths stride_of parts_of passes_of sizes_of records
worked = refl
