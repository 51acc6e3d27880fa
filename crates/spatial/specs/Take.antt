-- A neighbour is taken: its candidate joins the stack, and its match is noted (7.10.2.7 to 7.10.2.9).
use Rattle.std.specs.Prelude.{ℕ, Bool, ◌||◌, not, leb, Option, None, Some}
use Rattle.cells.specs.declared.block.Block.{Block}
use Rattle.cells.specs.Block.{MvPair}
use Rattle.spatial.specs.declared.neighbours.want.Want.{Want}
use Rattle.spatial.specs.neighbours.Want.{offer_of}
use Rattle.stack.specs.Stack.{State, joined}

-- the block's mode has a new vector: bit 1 of mf
abbrev pub new_mode : ℕ → Bool
new_mode mf = leb 2 mf

-- a match is noted, full stack or not: on its side, and whether the mode has a new vector
unfoldable pub noted : Bool → ℕ → State → State
noted down mf s =
    record { cands = s.cands; newmv = s.newmv || new_mode mf; above = s.above || not down; left = s.left || down }

abbrev pub taken : Bool → ℕ → ℕ → State → Option MvPair → State
taken down w mf s None = s
taken down w mf s (Some p) = noted down mf (joined s p w)

unfoldable pub spatial : Bool → ℕ → Block → Want → State → State
spatial down w k q s = taken down w k.mf s (offer_of k q)
