-- The row table of a superblock row: which row of records each of the 37 entries stands for.
use Rattle.std.specs.Prelude.{Bool, ◌&&◌, List, ℕ, ◌+◌, ◌-◌, ◌*◌, eqb, ltb, leb, get_or}
use Rattle.ground.specs.Pick.{pick}
use Rattle.ground.specs.Tab.{tab}
use Rattle.std.specs.Prelude.{Option, None, Some}
use Rattle.rows.specs.declared.table.RowEntry.{RowEntry}

abbrev pub none : RowEntry
none = record { at = None }

abbrev pub there : ℕ → RowEntry
there p = record { at = Some p }

-- Row e of a superblock row of n rows that starts at line 0 of its own table, as the number of a row in its part of the buffer.
-- Rows above: lines 0, 2 and 4 are the rows 5, 3 and 1 above, and lie behind the superblock row's own rows.
-- Rows of this superblock row: n lines from line 5 on, in the buffer's order.
unfoldable pub row_of : ℕ → ℕ → Option ℕ
row_of n e =
    pick (eqb e 0) (Some n)
    (pick (eqb e 2) (Some (n + 1))
    (pick (eqb e 4) (Some (n + 2))
    (pick (leb 5 e && ltb e (n + 5)) (Some (e - 5)) None)))

-- Swap on odd rows: the rows 5, 3 and 1 above are the last but four, the last but two and the last row of the superblock row before.
-- They stay where they were written, so lines 0, 2, 4 and n, n + 2, n + 4 change places.
unfoldable pub partner : ℕ → ℕ → ℕ
partner n e =
    pick (eqb e 0) n (pick (eqb e 2) (n + 2) (pick (eqb e 4) (n + 4)
    (pick (eqb e n) 0 (pick (eqb e (n + 2)) 2 (pick (eqb e (n + 4)) 4 e)))))

-- where the superblock row's own lines start: the table spans 32 rows, and an odd row of 16 has the lower half
unfoldable pub offset_of : ℕ → Bool → ℕ
offset_of n odd = pick odd (pick (eqb n 16) 16 0) 0

unfoldable pub row_at : ℕ → Bool → ℕ → Option ℕ
row_at n odd e =
    pick (ltb e (offset_of n odd)) None (row_of n (pick odd (partner n (e - offset_of n odd)) (e - offset_of n odd)))

-- a row of the part as a record's number
unfoldable pub placed : ℕ → ℕ → Option ℕ → RowEntry
placed first stride None = none
placed first stride (Some j) = there (first + j * stride)

unfoldable pub entry_at : ℕ → Bool → ℕ → ℕ → ℕ → RowEntry
entry_at n odd first stride e = placed first stride (row_at n odd e)

unfoldable pub table_of : ℕ → Bool → ℕ → ℕ → List RowEntry
table_of n odd first stride = tab (entry_at n odd first stride) 0 37

-- an entry's place; past the table there is none
unfoldable pub place_at : List RowEntry → ℕ → Option ℕ
place_at rows e = pick (ltb e 37) (get_or rows e none).at None
